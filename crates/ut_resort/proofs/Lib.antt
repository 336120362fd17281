pub mod OrderLemmas
pub mod PutLemmas
pub mod PairLemmas
pub mod SortLemmas
mod PackLemmas
pub mod ResortLaws
