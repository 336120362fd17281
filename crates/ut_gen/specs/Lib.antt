pub mod Draws
pub mod Rows
pub mod Script
pub mod Lines
