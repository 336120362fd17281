-- The seen rows of a stage that meet comparisons: a matter of rows of keys and of stamps alone.
use Rattle.std.specs.Prelude.{ℕ, Bool, ◌&&◌, List, length, map, filter, get_or, Option}
use Rattle.std.specs.List.{list_all, range_with_len}
use Rattle.ut_key.specs.Keys.{meets}
use Rattle.ut_stamps.specs.declared.fates.Fate.{Fate}
use Rattle.ut_stamps.specs.declared.visibility.Stamp.{Stamp}
use Rattle.ut_stamps.specs.Stamps.{sees}
use Rattle.ut_l2.specs.KeyRows.{KeyRow, key_at, no_row}
use Rattle.ut_key.specs.declared.comparison.ColumnPred.{ColumnPred}
use Rattle.ut_scan.specs.declared.place.Found.{Found}
use Rattle.ut_stamps.specs.declared.place.Place.{Place}
use Rattle.ut_stamps.specs.StampLists.{no_stamp}

-- the row at place i meets a comparison
abbrev pub meets_at : ColumnPred → List KeyRow → ℕ → Bool
meets_at p rows i = meets p.op p.key (key_at p.column (get_or rows i no_row))

-- a row meets each comparison
abbrev pub passes : List ColumnPred → KeyRow → Bool
passes preds row = list_all (λ p. meets p.op p.key (key_at p.column row)) preds

-- a row of a stage as it is found there
abbrev pub found_at : (ℕ → Place) → List KeyRow → ℕ → Found
found_at place rows i = record { id = (get_or rows i no_row).id; place = place i }

-- the places of a stage
abbrev pub all_places : List KeyRow → List ℕ
all_places rows = range_with_len 0 (length rows)

module _ (fates : List Fate) (snapshot : ℕ) (own : Option ℕ) (preds : List ColumnPred) where
  -- the row at place i meets each comparison, and its stamp is seen
  abbrev pub is_hit : List KeyRow → List Stamp → ℕ → Bool
  is_hit rows stamps i = passes preds (get_or rows i no_row) && sees fates snapshot own (get_or stamps i no_stamp)

  -- the rows of a stage that meet each comparison and are seen, in the order of their places
  abbrev pub found_in : (ℕ → Place) → List KeyRow → List Stamp → List Found
  found_in place rows stamps = map (found_at place rows) (filter (is_hit rows stamps) (all_places rows))
