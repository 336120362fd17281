pub mod SpanLemmas
pub mod StepLemmas
pub mod WriteLemmas
pub mod CutLemmas
pub mod DivisionLemmas
pub mod PlaceLemmas
pub mod FrontLemmas
pub mod JoinLemmas
