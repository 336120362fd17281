pub mod BoundsLemmas
pub mod WordLemmas
