pub mod ColumnLemmas
pub mod DeltaLemmas
pub mod PieceLemmas
pub mod SourceLemmas
