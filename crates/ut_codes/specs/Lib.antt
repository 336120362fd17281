pub mod Reached
pub mod Sizes
pub mod Forms
pub mod Shapes
