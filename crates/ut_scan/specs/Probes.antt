-- The test of a candidate by its place, and what it finds.
use Rattle.std.specs.Prelude.{◌≡◌, ℕ, ◌<◌, Bool, ◌&&◌, List, length, map, filter, get_or, Option, Some}
use Rattle.ut_stamps.specs.declared.visibility.Stamp.{Stamp}
use Rattle.ut_stamps.specs.Stamps.{sees}
use Rattle.ut_l2.specs.KeyRows.{KeyRow, no_row}
use Rattle.ut_key.specs.declared.comparison.ColumnPred.{ColumnPred}
use Rattle.ut_scan.specs.declared.place.Found.{Found}
use Rattle.ut_stamps.specs.declared.place.Place.{Place}
use Rattle.ut_stamps.specs.declared.place.Place.TheVariants.{L2, Closed}
use Rattle.ut_scan.specs.declared.probe.DeltaStage.{DeltaStage}
use Rattle.ut_scan.specs.declared.probe.DeltaStage.TheVariants.{L2 as in_l2, Closed as in_closed}
use Rattle.ut_scan.specs.declared.probe.Probe.{Probe}
use Rattle.ut_stamps.specs.declared.visibility.Snapshot.{Snapshot}
use Rattle.ut_scan.specs.Finds.{all_places, found_at, found_in, is_hit, meets_at, passes}
use Rattle.ut_scan.specs.StageRows.{found_in_parts}
use Rattle.ut_stamps.specs.StampLists.{no_stamp}

-- a place of L2 or of the closed stage
abbrev pub place_in : DeltaStage → ℕ → Place
place_in in_l2 = L2
place_in in_closed = Closed

-- whether the snapshot sees the row at place i
abbrev pub is_seen : Snapshot → List Stamp → ℕ → Bool
is_seen v stamps i = sees v.fates.now v.at v.own (get_or stamps i no_stamp)

-- the snapshot sees all rows with these stamps, or none
abbrev pub AreSeenAs : Snapshot → List Stamp → Bool → Type 0
AreSeenAs v stamps seen = (i : ℕ) → i < length stamps → is_seen v stamps i ≡ seen

-- what is told of all rows holds
abbrev pub Tells : Snapshot → List Stamp → Option Bool → Type 0
Tells v stamps told = (seen : Bool) → told ≡ Some seen → AreSeenAs v stamps seen

-- the snapshot sees the row at place i, and it meets each comparison
abbrev pub hits : Snapshot → List ColumnPred → List KeyRow → List Stamp → ℕ → Bool
hits v preds rows stamps i = is_hit v.fates.now v.at v.own preds rows stamps i

-- the rows of a stage that the snapshot sees and that meet each comparison
abbrev pub found_for : Snapshot → List ColumnPred → (ℕ → Place) → List KeyRow → List Stamp → List Found
found_for v preds place rows stamps = found_in v.fates.now v.at v.own preds place rows stamps

-- the same of all parts of main
abbrev pub found_in_main : Snapshot → List ColumnPred → List (List KeyRow) → List (List Stamp) → List Found
found_in_main v preds parts stamps = found_in_parts v.fates.now v.at v.own preds parts stamps

-- the row at place i meets the comparisons that are left, and is seen
abbrev pub finds : Probe → ℕ → Bool
finds p i =
    (passes p.before.now (get_or p.l2.now.rows i no_row)
    && passes p.after.now (get_or p.l2.now.rows i no_row))
    && is_seen p.snapshot.now p.stamps.now i

-- the rows at those places that a probe finds
abbrev pub found_by : Probe → List ℕ → List Found
found_by p places = map (found_at (place_in p.stage) p.l2.now.rows) (filter (finds p) places)

-- the rows that meet a comparison and that a probe finds
abbrev pub found_with : ColumnPred → Probe → List Found
found_with pred p = map (found_at (place_in p.stage) p.l2.now.rows) (filter (λ i. meets_at pred p.l2.now.rows i && finds p i) (all_places p.l2.now.rows))

-- a row is a hit where it meets comparison k and the probe finds it
abbrev pub IsRest : Snapshot → List ColumnPred → ℕ → List KeyRow → List Stamp → Probe → Type 0
IsRest v preds k rows stamps p = (d : ColumnPred) (i : ℕ) → hits v preds rows stamps i ≡ (meets_at (get_or preds k d) rows i && finds p i)
