pub mod Cells
pub mod Delta
pub mod KeyRows
pub mod Places
pub mod Sources
