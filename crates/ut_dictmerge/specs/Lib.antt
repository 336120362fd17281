pub mod Merge
pub mod Cuts
pub mod Pieces
