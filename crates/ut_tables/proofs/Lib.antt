pub mod IndexLemmas
pub mod JobLemmas
pub mod FoundLemmas
pub mod LoadLemmas
pub mod WorkLemmas
