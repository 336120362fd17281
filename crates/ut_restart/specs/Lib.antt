pub mod Began
pub mod Shown
pub mod Standing
pub mod Rows
pub mod Noted
pub mod Applied
pub mod Replayed
