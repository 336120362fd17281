pub mod PlaceLemmas
pub mod CompiledLemmas
pub mod ResolvedLemmas
pub mod BindingLemmas
pub mod TaskLemmas
