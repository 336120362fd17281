pub mod UnionLemmas
pub mod MemberLemmas
pub mod ColumnLemmas
pub mod CountLemmas
