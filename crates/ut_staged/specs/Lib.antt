pub mod Staged
pub mod Choice
pub mod Tables
pub mod Keeping
pub mod Staging
