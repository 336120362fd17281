pub mod Leaving
pub mod Starting
pub mod Work
