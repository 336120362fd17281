pub mod Telling
pub mod Keeping
pub mod Coming
pub mod Course
