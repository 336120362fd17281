pub mod Spans
pub mod Recode
