pub mod WriteLemmas
pub mod ConflictLemmas
pub mod LoadLemmas
pub mod MadeLemmas
mod BulkLemmas
