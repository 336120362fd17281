pub mod Command
pub mod Plans
pub mod Reading
