-- A list with room.
use Rattle.std.specs.Prelude.{ℕ, List}

-- the items in order, and how many more can be pushed without memory
pub record Queued (T : Type 0) : Type 0 where
  pub items : List T
  pub room : ℕ
