-- What operations make of a table's stages, one after the other, and when the stages can take them.
use Rattle.std.specs.Prelude.{ℕ, ◌+◌, ◌≤◌, Bool, true, IsTrue, IsSome, List, [], ◌∷◌, length}
use Rattle.std.specs.List.{list_all, sum_by}
use Rattle.ut_value.specs.declared.value.Column.{Column}
use Rattle.ut_value.specs.declared.entry.Op.{Op}
use Rattle.ut_value.specs.declared.entry.Op.TheVariants as ops
use Rattle.ut_plain.specs.Tables.{fits_columns}
use Rattle.ut_plain.specs.Rows.{inserts_of}
use Rattle.ut_stamps.specs.declared.place.Place.{Place}
use Rattle.ut_staged.specs.Staged.{Staged, row_at, count_of, entered_l1, ended_in}
use Rattle.ut_staged.specs.Staging.{new_row}

-- what one operation of a transaction makes of the stages: a delete ends the next place that was found, an insert enters the first stage
abbrev pub written_one : ℕ → Op → List (ℕ × Place) → Staged → Staged
written_one number (ops.Insert table id values) hits s = entered_l1 (new_row number id values) s
written_one number (ops.Delete table id) [] s = s
written_one number (ops.Delete table id) (h ∷ hits) s = ended_in number h.1 s

-- the places that are left behind it
abbrev pub hits_behind : Op → List (ℕ × Place) → List (ℕ × Place)
hits_behind (ops.Insert table id values) hits = hits
hits_behind (ops.Delete table id) [] = []
hits_behind (ops.Delete table id) (h ∷ hits) = hits

-- whether an insert has a value for each column
abbrev pub op_fits : List Column → Op → Bool
op_fits columns (ops.Insert table id values) = fits_columns columns values
op_fits columns (ops.Delete table id) = true

-- how many rows an operation ends
abbrev pub op_ends : Op → ℕ
op_ends (ops.Insert table id values) = 0
op_ends (ops.Delete table id) = 1

-- how many rows operations end
abbrev pub ends_of : List Op → ℕ
ends_of os = sum_by op_ends os

-- a row stands in each of these places
abbrev pub AreThere : Staged → List (ℕ × Place) → Type 0
AreThere s [] = Unit {0}
AreThere s (h ∷ hits) = IsSome (row_at s h.1) × AreThere s hits

-- The stages can take these operations: the inserts fit the columns, there are places for them, and there is a place
-- with a row for each delete.
pub record CanWrite (s : Staged) (hits : List (ℕ × Place)) (os : List Op) : Type 0 where
  pub fits : IsTrue (list_all (op_fits s.columns) os)
  pub few : count_of s + inserts_of os ≤ 2147483648
  pub there : AreThere s hits
  pub enough : ends_of os ≤ length hits
