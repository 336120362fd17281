pub mod FirstSeenLemmas
pub mod HeldLemmas
pub mod PostingLemmas
mod WordLemmas
mod OrderLemmas
mod RisingLemmas
