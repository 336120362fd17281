pub mod ListLemmas
pub mod LiveLemmas
pub mod PlaceLemmas
pub mod PartLemmas
pub mod StoreLemmas
