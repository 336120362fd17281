pub mod Rows
pub mod Finds
pub mod Changed
pub mod Merging
pub mod Works
pub mod Standing
