pub mod SetLemmas
pub mod NextLemmas
pub mod NoteLaws
