pub mod InsertLemmas
pub mod OneRowLemmas
pub mod TablesLemmas
