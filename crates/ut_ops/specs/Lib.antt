pub mod ValueOrder
pub mod Fit
pub mod Named
pub mod Tally
pub mod Index
pub mod Noted
pub mod Gathered
pub mod Seen
