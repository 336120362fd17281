pub mod Listed
pub mod Known
