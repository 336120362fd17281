pub mod LookLemmas
