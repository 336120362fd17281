pub mod BitLemmas
pub mod ListLemmas
pub mod PlacesLemmas
pub mod WordLemmas
