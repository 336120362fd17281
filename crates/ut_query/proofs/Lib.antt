pub mod ShowLemmas
pub mod RowLemmas
pub mod QuestionLemmas
pub mod TellLemmas
