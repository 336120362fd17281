pub mod MarkLemmas
pub mod OneLemmas
pub mod NoneLemmas
pub mod ImageLemmas
pub mod PutLemmas
mod DifferLemmas
