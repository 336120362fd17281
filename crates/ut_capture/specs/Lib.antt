pub mod Live
pub mod Stages
