pub mod DeedLemmas
pub mod FileSetLemmas
pub mod StandingLemmas
pub mod CallLemmas
