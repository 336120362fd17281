-- Which rows of a table are live, by their stamps where the journal has so many entries.
use Rattle.std.specs.Prelude.{ℕ, Bool, not, List, [], ◌++◌, map, None}
use Rattle.std.specs.Option.{unwrap_or}
use Rattle.std.specs.List.{filter}
use Rattle.ut_value.specs.declared.value.Row.{Row}
use Rattle.ut_plain.specs.declared.stage.Placed.{Placed}
use Rattle.ut_plain.specs.declared.stage.TableStages.{TableStages}
use Rattle.ut_stamps.specs.declared.fates.Fate.{Fate}
use Rattle.ut_stamps.specs.Stamps.{sees}
use Rattle.ut_exact.specs.Places.{StagedRow}
use Rattle.ut_staged.specs.Staged.{Staged, placed_of}

-- a row without its stamp
abbrev pub row_of : StagedRow → Row
row_of row = record { id = row.id; values = row.values }

module _ (fates : List Fate) (entries : ℕ) where
  -- a session outside transactions sees it
  abbrev pub is_live : StagedRow → Bool
  is_live row = sees fates entries None row.stamp

  -- the live ones of these rows
  abbrev pub live_rows : List StagedRow → List Row
  live_rows rows = map row_of (filter is_live rows)

  abbrev pub live_places : List StagedRow → List Placed
  live_places rows = map placed_of (filter is_live rows)

  -- a place of a part keeps its row, and is dead where this isn't live
  abbrev pub live_place : StagedRow → Placed
  live_place row = record { id = row.id; values = row.values; dead = not (is_live row) }

  abbrev pub live_parts : List (List StagedRow) → List (List Placed)
  live_parts parts = map (map live_place) parts

  -- the stages of a table as an image has them: the second takes the rows of a closed one first, and then its own
  abbrev pub live_stages : Staged → TableStages
  live_stages s = record {
    l1 = live_places s.l1;
    l2 = live_places (unwrap_or s.closed []) ++ live_places s.l2;
    closed = None;
    parts = live_parts s.parts;
    keep = [];
  }
