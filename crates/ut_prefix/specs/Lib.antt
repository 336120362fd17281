pub mod Spelling
pub mod Totals
pub mod Reading
pub mod Lookup
pub mod Chain
