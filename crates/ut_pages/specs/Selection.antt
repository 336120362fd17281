-- What a store knows of its page file.
use Rattle.std.specs.Prelude.{ℕ, List}
use Rattle.ut_pages.specs.declared.slot.Slot.{Slot}

-- the slot that is selected, and the pages that its root reaches
pub record Selection : Type 0 where
  pub slot : Slot
  pub reached : List ℕ
