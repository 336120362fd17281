pub mod Laws
pub mod Resorted
pub mod Sorting
