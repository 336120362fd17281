pub mod KeyLemmas
pub mod OneSpelling
pub mod SpellingLengths
