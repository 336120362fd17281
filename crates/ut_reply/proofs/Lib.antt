pub mod LoopLemmas
pub mod QuotedLemmas
pub mod RoomLemmas
pub mod RowLemmas
pub mod RunLemmas
pub mod ShowLemmas
pub mod TextsLemmas
