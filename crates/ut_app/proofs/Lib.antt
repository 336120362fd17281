pub mod HearLemmas
pub mod FigureLemmas
pub mod BenchLemmas
pub mod TopLemmas
pub mod CrowdLemmas
