pub mod Frequent
pub mod Sparse
