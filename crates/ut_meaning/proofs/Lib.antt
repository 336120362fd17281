mod ListLemmas
pub mod BestLaws
pub mod OccurringLaws
pub mod KeyLaws
pub mod ResortingLaws
pub mod MarkingLaws
pub mod KeepingLaws
