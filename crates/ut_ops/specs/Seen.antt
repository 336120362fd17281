-- The values of a column that were read, and marks that tell where those of its codes stand.
use Rattle.std.specs.Prelude.{ℕ, suc, ◌≡◌, ◌<◌, List, ◌++◌, length, get_or, slice_get, Some}
use Rattle.ut_value.specs.declared.value.Kind.{Kind}
use Rattle.ut_value.specs.declared.value.Value.{Value}
use Rattle.ut_staged.specs.Staged.{Staged}
use Rattle.ut_table.specs.Decoded.{decoded}
use Rattle.ut_table.specs.Coded.{coded_values}

-- a mark is one more than the place of the value that the code has
pub record AreSeen (s : Staged) (column : ℕ) (values : List Value) (marks : List ℕ) : Type 0 where
  pub each : (code place : ℕ) → get_or marks code 0 ≡ suc place → (place < length values) × (slice_get values place ≡ slice_get (coded_values s column) code)

-- values, and perhaps others behind them
pub record IsMore (old new : List Value) : Type 0 where
  pub more : List Value
  pub is : new ≡ old ++ more

-- a key's value stands in a place
pub record IsLast (kind : Kind) (key : List ℕ) (values : List Value) (place : ℕ) : Type 0 where
  pub inside : place < length values
  pub value : slice_get values place ≡ Some (decoded kind key)
