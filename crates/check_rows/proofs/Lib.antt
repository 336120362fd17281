pub mod ListedLemmas
pub mod KnownLemmas
pub mod ValueLemmas
pub mod FilterLemmas
pub mod MadeLemmas
pub mod LoadLemmas
