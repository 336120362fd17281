-- The numbers of codes that were noted.
use Rattle.std.specs.Prelude.{ℕ, suc, ◌≡◌, List, Some, slice_get, All}
use Rattle.ut_value.specs.declared.value.Value.TheVariants.{Int}
use Rattle.ut_staged.specs.Staged.{Staged}
use Rattle.ut_table.specs.Coded.{coded_values}
use Rattle.ut_ops.specs.declared.numbers.Noted.{Noted}

-- the code whose mark this is has the number
pub record IsNoted (s : Staged) (column : ℕ) (note : Noted) : Type 0 where
  pub number : (code : ℕ) → note.mark ≡ suc code → slice_get (coded_values s column) code ≡ Some (Int note.number)

abbrev pub AreNoted : Staged → ℕ → List Noted → Type 0
AreNoted s column notes = All (IsNoted s column) notes
