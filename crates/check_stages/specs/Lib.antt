pub mod Needed
pub mod There
