-- The values that occur in a list.
use Rattle.std.specs.Prelude.{◌≡◌, ℕ, ◌<◌, Contains, List, length, get_or}
use Rattle.std.specs.declared.cmp.Ordering.TheVariants.{Less}
use Rattle.ut_value.specs.declared.value.Value.{Value}
use Rattle.ut_value.specs.KeyOrder.{value_cmp}
use Rattle.ut_plain.specs.Query.{distinct}

-- exactly these values, each once, ascending
pub record AreOccurring (vs keys : List Value) : Type 0 where
  pub ascending : (i j : ℕ) (d : Value) → i < j → j < length keys → value_cmp (get_or keys i d) (get_or keys j d) ≡ Less
  pub all : (v : Value) → Contains vs v → Contains keys v
  pub only : (v : Value) → Contains keys v → Contains vs v

-- those are the distinct values
abbrev pub DistinctOccur : Type 0
DistinctOccur = (vs : List Value) → AreOccurring vs (distinct vs)

-- and no other list is
abbrev pub IsOnlyDistinct : Type 0
IsOnlyDistinct = (vs keys : List Value) → AreOccurring vs keys → keys ≡ distinct vs
