pub mod Writes
pub mod Conflicts
pub mod Loads
pub mod Made
pub mod Bulks
pub mod Entering
