-- The stages of a table: lists of rows with their stamps.
use Rattle.std.specs.Prelude.{ℕ, zero, suc, ◌+◌, Bool, true, false, nat_le, List, [], ◌∷◌, ◌++◌, length, map, take, drop, get_or, Option, None, Some, slice_get, slice_set}
use Rattle.std.specs.Option.{option_map, option_and_then, unwrap_or}
use Rattle.ut_value.specs.declared.value.Column.{Column}
use Rattle.ut_value.specs.declared.value.Row.{Row}
use Rattle.ut_plain.specs.declared.stage.Placed.{Placed}
use Rattle.ut_plain.specs.declared.stage.TableStages.{TableStages}
use Rattle.ut_plain.specs.declared.stage.PendingMerge.{PendingMerge}
use Rattle.ut_stamps.specs.declared.visibility.Stamp.{Stamp}
use Rattle.ut_stamps.specs.declared.place.Place.{Place}
use Rattle.ut_stamps.specs.declared.place.Place.TheVariants.{L1, L2, Closed, Main}
use Rattle.ut_exact.specs.Places.{StagedRow, is_dead, ended_row}

-- one table: its columns, the rows in each stage, and its pending merge
pub record Staged : Type 0 where
  pub columns : List Column
  pub l1 : List StagedRow
  pub l2 : List StagedRow
  -- the second stage that a pending merge closed
  pub closed : Option (List StagedRow)
  -- main
  pub parts : List (List StagedRow)
  -- of a pending merge: which places it keeps, of each part and then of the closed stage
  pub keep : List (List Bool)
  -- the pending merge of this table
  pub merge : Option PendingMerge

-- a table without rows
abbrev pub no_rows : List Column → Staged
no_rows columns = record { columns = columns; l1 = []; l2 = []; closed = None; parts = []; keep = []; merge = None }

-- ---- places

-- the row at a place of a list that may be there
abbrev pub row_in : Option (List StagedRow) → ℕ → Option StagedRow
row_in rows i = option_and_then (λ list. slice_get list i) rows

-- the row in a place
abbrev pub row_at : Staged → Place → Option StagedRow
row_at s (L1 i) = slice_get s.l1 i
row_at s (L2 i) = slice_get s.l2 i
row_at s (Closed i) = row_in s.closed i
row_at s (Main p i) = row_in (slice_get s.parts p) i

-- how many rows stand in the stages that aren't main
abbrev pub count_of : Staged → ℕ
count_of s = length s.l1 + length s.l2 + length (unwrap_or s.closed [])

-- what stands where no row is
abbrev pub no_row : StagedRow
no_row = record { id = 0; values = []; stamp = record { begin = 0; end = None } }

-- the rows in these places, with the stamps that they have there
abbrev pub rows_at : Staged → List Place → List StagedRow
rows_at s places = map (λ p. unwrap_or (row_at s p) no_row) places

-- ---- as the plain store has them

-- a row in its place
abbrev pub placed_of : StagedRow → Placed
placed_of row = record { id = row.id; values = row.values; dead = is_dead row.stamp }

-- the stages of a table
abbrev pub stages_of : Staged → TableStages
stages_of s = record {
  l1 = map placed_of s.l1;
  l2 = map placed_of s.l2;
  closed = option_map (map placed_of) s.closed;
  parts = map (map placed_of) s.parts;
  keep = s.keep;
}

-- ---- rows that enter and end

-- a row with its stamp
abbrev pub stamped_row : Stamp → Row → StagedRow
stamped_row stamp row = record { id = row.id; values = row.values; stamp = stamp }

-- a row that a transaction begins
abbrev pub begun_row : ℕ → Row → StagedRow
begun_row t row = stamped_row (record { begin = t; end = None }) row

-- a row enters the first stage
abbrev pub entered_l1 : StagedRow → Staged → Staged
entered_l1 row s = record s { l1 = s.l1 ++ row ∷ [] }

-- rows enter the second
abbrev pub entered_l2 : List StagedRow → Staged → Staged
entered_l2 rows s = record s { l2 = s.l2 ++ rows }

-- the rows with an end at a place
abbrev pub end_at : ℕ → ℕ → List StagedRow → List StagedRow
end_at t i [] = []
end_at t zero (row ∷ rows) = ended_row t row ∷ rows
end_at t (suc i) (row ∷ rows) = row ∷ end_at t i rows

-- the stages with an end at a place
abbrev pub ended_in : ℕ → Place → Staged → Staged
ended_in t (L1 i) s = record s { l1 = end_at t i s.l1 }
ended_in t (L2 i) s = record s { l2 = end_at t i s.l2 }
ended_in t (Closed i) s = record s { closed = option_map (end_at t i) s.closed }
ended_in t (Main p i) s = record s { parts = slice_set s.parts p (end_at t i (get_or s.parts p [])) }

-- ---- merges

-- the first n rows of the first stage, or all where there are fewer, stand last in the second
abbrev pub merged_l1 : ℕ → Staged → Staged
merged_l1 n s = record s { l1 = drop n s.l1; l2 = s.l2 ++ take n s.l1 }

-- a merge begins: the second stage is closed, and it is fixed which places are kept
abbrev pub closed_l2 : PendingMerge → List (List Bool) → Staged → Staged
closed_l2 head keep s = record s { l2 = []; closed = Some s.l2; keep = keep; merge = Some head }

-- whether a merge that leaves so many parts gives up the place
abbrev pub is_rebuilt : ℕ → Place → Bool
is_rebuilt stay (L1 i) = false
is_rebuilt stay (L2 i) = false
is_rebuilt stay (Closed i) = true
is_rebuilt stay (Main p i) = nat_le stay p

-- it ends: the parts behind the first, so many, and the closed stage are replaced by one part of the rows in these places
abbrev pub switched : ℕ → List Place → Staged → Staged
switched stay olds s = record s { closed = None; parts = take stay s.parts ++ rows_at s olds ∷ []; keep = []; merge = None }
