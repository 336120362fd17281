pub mod ListLemmas
pub mod TableLemmas
pub mod PushLemmas
pub mod FilledLemmas
