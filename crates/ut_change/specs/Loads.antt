-- Rows under their ids, the rows that operations insert, and what loading and writing make of a table.
use Rattle.std.specs.Prelude.{ℕ, ◌+◌, Bool, true, false, List, [], ◌∷◌, map}
use Rattle.std.specs.List.{flat_map}
use Rattle.ut_value.specs.declared.value.Value.{Value}
use Rattle.ut_value.specs.declared.value.Row.{Row}
use Rattle.ut_value.specs.declared.entry.Op.{Op}
use Rattle.ut_value.specs.declared.entry.Op.TheVariants as ops
use Rattle.ut_stamps.specs.declared.place.Place.{Place}
use Rattle.ut_staged.specs.Staged.{Staged, begun_row, entered_l2}
use Rattle.ut_staged.specs.Staging.{written}

-- rows under the ids from a number on
abbrev pub numbered : ℕ → List (List Value) → List Row
numbered id [] = []
numbered id (values ∷ rows) = record { id = id; values = values } ∷ numbered (id + 1) rows

-- the row that an operation inserts
abbrev pub inserted_by : Op → List Row
inserted_by (ops.Insert n id values) = record { id = id; values = values } ∷ []
inserted_by (ops.Delete n id) = []

-- the rows that operations insert
abbrev pub inserted : List Op → List Row
inserted os = flat_map inserted_by os

-- what operations of a transaction make of the stages of their table: loaded into the second stage, or written one after the other
abbrev pub done_by : Bool → List Op → List (ℕ × Place) → ℕ → Staged → Staged
done_by true os hits number s = entered_l2 (map (begun_row number) (inserted os)) s
done_by false os hits number s = written number os hits s
