pub mod Counts
pub mod Turns
pub mod Line
pub mod Tells
pub mod Steps
pub mod Passes
