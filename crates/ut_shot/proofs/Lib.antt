pub mod ToldLemmas
pub mod SightLemmas
pub mod AnswerLaws
pub mod ShotLemmas
pub mod TakeLemmas
