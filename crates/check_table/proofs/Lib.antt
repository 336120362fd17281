pub mod FlatLemmas
pub mod OutsideLemmas
