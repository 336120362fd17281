-- A table whose rows are to be merged.
use Rattle.std.specs.Prelude.{ℕ, Bool, true, false, not, Option, None, Some}
use Rattle.ut_crowd.specs.declared.merger.Ripe.{Ripe}
use Rattle.ut_crowd.specs.declared.merger.Ripe.TheVariants.{First, Second}

-- its place in order of creation
abbrev pub place_of : Ripe → ℕ
place_of (First place) = place
place_of (Second place) = place

-- the first one whose first stage is full, or else the first one whose second is
abbrev pub ripe_of : Option ℕ → Option ℕ → Option Ripe
ripe_of (Some place) second = Some (First place)
ripe_of None (Some place) = Some (Second place)
ripe_of None None = None

-- whether a merger does something with it, while a savepoint waits or none does: then no merge into main begins
abbrev pub is_called : (waited : Bool) → Option Ripe → Bool
is_called waited None = false
is_called waited (Some (First place)) = true
is_called waited (Some (Second place)) = not waited
