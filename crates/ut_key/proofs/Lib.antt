pub mod ArenaLemmas
pub mod WordLemmas
pub mod HalfLemmas
