pub mod Arena
pub mod Keys
