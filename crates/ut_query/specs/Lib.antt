pub mod Look
pub mod Tells
