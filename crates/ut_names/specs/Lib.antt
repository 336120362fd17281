pub mod Resolved
pub mod Binding
