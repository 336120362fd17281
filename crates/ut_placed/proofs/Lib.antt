pub mod StandLemmas
pub mod InsertLemmas
pub mod MergeLemmas
pub mod StepLaws
