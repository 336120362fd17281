pub mod Writes
pub mod Captured
pub mod Planning
