-- The operations that an update makes of the rows that it found.
use Rattle.std.specs.Prelude.{ℕ, ◌+◌, List, [], ◌∷◌, slice_set}
use Rattle.ut_value.specs.declared.value.Value.{Value}
use Rattle.ut_value.specs.declared.entry.Op.{Op}
use Rattle.ut_value.specs.declared.entry.Op.TheVariants as ops
use Rattle.ut_stamps.specs.declared.place.Place.{Place}
use Rattle.ut_exact.specs.Scan.{stored_in}
use Rattle.ut_staged.specs.Staged.{Staged, row_at}

-- the row in each place is deleted, and a copy with another value in a column inserted
abbrev pub updated_ops : Staged → ℕ → ℕ → ℕ → Value → List (ℕ × Place) → List Op
updated_ops s n id column value [] = []
updated_ops s n id column value (h ∷ hits) =
    ops.Delete n h.0
    ∷ ops.Insert n id (slice_set (stored_in n (row_at s h.1)).values column value)
    ∷ updated_ops s n (id + 1) column value hits
