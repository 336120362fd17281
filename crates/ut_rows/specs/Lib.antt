pub mod Columns
pub mod Form
