pub mod KeepLemmas
pub mod TellLemmas
pub mod JobLemmas
pub mod SessionLemmas
pub mod ComeLemmas
pub mod CourseLemmas
