-- Rows that a merge keeps because somebody needs them, told by a list of ids.
use Rattle.std.specs.Prelude.{◌≡◌, ℕ, ◌++◌, Bool, ◌&&◌, not, nat_eq, List, map, take, drop}
use Rattle.std.specs.List.{list_any}
use Rattle.ut_plain.specs.declared.stage.Placed.{Placed}
use Rattle.ut_plain.specs.Journal.{Journal}
use Rattle.ut_plain.specs.Plain.{Sessions}
use Rattle.ut_plain.specs.Merges.{is_needed, all_kept}

-- these are the ids of the rows that are there now or that an open transaction needs
abbrev pub AreNeeded : List ℕ → Journal → Sessions → Type 0
AreNeeded ids j sessions = (id : ℕ) → list_any (nat_eq id) ids ≡ is_needed j sessions id

-- whether a place is kept where the rows of these ids are needed
abbrev pub is_kept_by : List ℕ → Placed → Bool
is_kept_by ids place = not place.dead && list_any (nat_eq place.id) ids

-- a flag for each place of these lists, of which the first so many stay as they are
abbrev pub flags_by : List ℕ → ℕ → List (List Placed) → List (List Bool)
flags_by ids stay lists = map all_kept (take stay lists) ++ map (map (is_kept_by ids)) (drop stay lists)
