pub mod StageLemmas
pub mod ReplayLemmas
pub mod KeptLemmas
pub mod SortedLemmas
pub mod CaptureLemmas
