pub mod Best
pub mod Occurring
pub mod Keys
pub mod Resorting
pub mod Marking
pub mod Keeping
