pub mod Hearing
pub mod Figures
pub mod Benching
pub mod Top
pub mod Crowds
