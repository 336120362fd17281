-- The rows of a table's stages, and all of them that a scan finds.
use Rattle.std.specs.Prelude.{◌≡◌, ℕ, ◌<◌, List, [], ◌++◌, length, map, get_or, All, Option, option_map, IfSome}
use Rattle.std.specs.List.{flat_map, range_with_len, sum_by}
use Rattle.ut_stamps.specs.declared.fates.Fate.{Fate}
use Rattle.ut_stamps.specs.declared.visibility.Stamp.{Stamp}
use Rattle.ut_stamps.specs.declared.place.Place.TheVariants.{L1, L2, Closed, Main}
use Rattle.ut_l2.specs.KeyRows.{KeyRow, keyed}
use Rattle.ut_prefix.specs.Chain.{chain_steps}
use Rattle.ut_main.specs.Parts.{MainValue, dicts_behind}
use Rattle.ut_key.specs.declared.comparison.ColumnPred.{ColumnPred}
use Rattle.ut_scan.specs.declared.asked.Asked.{Asked}
use Rattle.ut_scan.specs.declared.place.Found.{Found}
use Rattle.ut_scan.specs.declared.stages.Stages.{Stages}
use Rattle.ut_scan.specs.Finds.{found_in}
use Rattle.ut_stamps.specs.StampLists.{StampLists, if_closed}

-- the rows of each stage, and those of each part of main
pub record StageRows : Type 0 where
  pub l1 : List KeyRow
  pub l2 : List KeyRow
  pub closed : Option (List KeyRow)
  pub parts : List (List KeyRow)

-- the rows that stages hold
abbrev pub rows_in : Stages → StageRows
rows_in stages = record {
  l1 = map keyed stages.l1.now.items;
  l2 = stages.l2.now.rows;
  closed = option_map (λ l. l.now.rows) stages.closed;
  parts = stages.main.now.parts;
}

-- each row of rows in columns has a stamp
abbrev pub AreStampedParts : List (List KeyRow) → List (List Stamp) → Type 0
AreStampedParts parts stamps = map length stamps ≡ map length parts

-- each row has a stamp, and as many values as L2 has columns
pub record AreStamped (stages : Stages) : Type 0 where
  pub l1 : length stages.stamps.now.l1.items ≡ length stages.l1.now.items
  pub l2 : length stages.stamps.now.l2.items ≡ length stages.l2.now.rows
  pub closed : option_map length stages.stamps.now.closed ≡ option_map (λ l. length l.now.rows) stages.closed
  pub parts : AreStampedParts stages.main.now.parts stages.stamps.now.parts
  pub wide : All (λ r. length r.values ≡ stages.l2.now.width) stages.l1.now.items
  pub closed_wide : IfSome stages.closed (λ l. l.now.width ≡ stages.l2.now.width)
  pub main_wide : stages.main.now.width ≡ stages.l2.now.width

-- it asks for the rows that are seen at a snapshot, with the changes of an own transaction, and that meet comparisons
pub record AsksFor (fates : List Fate) (snapshot : ℕ) (own : Option ℕ) (preds : List ColumnPred) (asked : Asked) : Type 0 where
  pub fates_are : asked.snapshot.fates.now ≡ fates
  pub snapshot_is : asked.snapshot.at ≡ snapshot
  pub own_is : asked.snapshot.own ≡ own
  pub preds_are : asked.preds.now ≡ preds

-- each row has a stamp, and the columns that are asked for are there
pub record MayAsk (stages : Stages) (asked : Asked) : Type 0 where
  pub stamped : AreStamped stages
  pub columns : All (λ p. p.column < stages.l2.now.width) asked.preds.now

module _ (fates : List Fate) (snapshot : ℕ) (own : Option ℕ) (preds : List ColumnPred) where
  -- the seen rows of a part that meet each comparison
  abbrev pub found_in_part : List (List KeyRow) → List (List Stamp) → ℕ → List Found
  found_in_part parts stamps p = found_in fates snapshot own preds (Main p) (get_or parts p []) (get_or stamps p [])

  -- the same of all parts, one after the other
  abbrev pub found_in_parts : List (List KeyRow) → List (List Stamp) → List Found
  found_in_parts parts stamps = flat_map (found_in_part parts stamps) (range_with_len 0 (length parts))

  -- the same of the stages outside of main
  abbrev pub found_outside : StageRows → StampLists → List Found
  found_outside rows stamps =
      (found_in fates snapshot own preds L2 rows.l2 stamps.l2.items
      ++ found_in fates snapshot own preds L1 rows.l1 stamps.l1.items)
      ++ found_in fates snapshot own preds Closed (if_closed rows.closed) (if_closed stamps.closed)

  -- the same of all stages
  abbrev pub found_rows : StageRows → StampLists → List Found
  found_rows rows stamps = found_outside rows stamps ++ found_in_parts rows.parts stamps.parts

-- the rows that are asked for, of stages as they stand
abbrev pub rows_asked : Asked → Stages → List Found
rows_asked a stages = found_rows a.snapshot.fates.now a.snapshot.at a.snapshot.own a.preds.now (rows_in stages) stages.stamps.now

-- those of them outside of main
abbrev pub outside_asked : Asked → Stages → List Found
outside_asked a stages = found_outside a.snapshot.fates.now a.snapshot.at a.snapshot.own a.preds.now (rows_in stages) stages.stamps.now

-- the most steps of a scan: for each comparison those of one search in all the dictionaries of its column
abbrev pub scan_steps : MainValue → List ColumnPred → ℕ
scan_steps main preds = sum_by (λ p. chain_steps (get_or (dicts_behind main) p.column [])) preds
