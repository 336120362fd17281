pub mod EndsLemmas
pub mod EntryLemmas
pub mod RunsLemmas
