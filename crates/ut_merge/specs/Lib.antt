pub mod Resorting
pub mod Jobs
pub mod Places
pub mod Columns
pub mod Uniting
pub mod NewRows
pub mod Gathering
pub mod Recodings
