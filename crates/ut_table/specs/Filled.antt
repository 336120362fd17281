-- A table that is filled from elsewhere: main at once, and rows that get other stamps.
use Rattle.std.specs.Prelude.{ℕ, zero, suc, ◌≡◌, ◌≤◌, List, [], ◌∷◌, length, map, get_or, slice_set}
use Rattle.std.specs.List.{AllByRecursion}
use Rattle.std.specs.Option.{option_map}
use Rattle.ut_value.specs.declared.value.Column.{Column}
use Rattle.ut_value.specs.declared.value.Row.{Row}
use Rattle.ut_stamps.specs.declared.visibility.Stamp.{Stamp}
use Rattle.ut_stamps.specs.declared.place.Place.{Place}
use Rattle.ut_stamps.specs.declared.place.Place.TheVariants.{L1, L2, Closed, Main}
use Rattle.ut_main.specs.Parts.{MainValue}
use Rattle.ut_exact.specs.Places.{StagedRow}
use Rattle.ut_staged.specs.Staged.{Staged}
use Rattle.ut_table.specs.Kept.{IsRow}
use Rattle.ut_table.specs.Pending.{key_row}

-- ---- main

-- a row without its stamp
abbrev pub row_of : StagedRow → Row
row_of row = record { id = row.id; values = row.values }

-- Main and these stamps are rows that fit the columns: main has their keys.
pub record HoldsParts (columns : List Column) (main : MainValue) (stamps : List (List Stamp)) (parts : List (List StagedRow)) : Type 0 where
  pub width : main.width ≡ length columns
  pub few : length parts ≤ 8
  pub keys : main.parts ≡ map (map key_row) parts
  pub stamps_are : stamps ≡ map (map (λ (row : StagedRow). row.stamp)) parts
  pub fit : AllByRecursion (AllByRecursion (λ (row : StagedRow). IsRow columns (row_of row))) parts

-- ---- stamps

-- the rows with another stamp at a place
abbrev pub restamped_at : Stamp → ℕ → List StagedRow → List StagedRow
restamped_at stamp i [] = []
restamped_at stamp zero (row ∷ rows) = record row { stamp = stamp } ∷ rows
restamped_at stamp (suc i) (row ∷ rows) = row ∷ restamped_at stamp i rows

-- the stages with another stamp at a place
abbrev pub restamped : Stamp → Place → Staged → Staged
restamped stamp (L1 i) s = record s { l1 = restamped_at stamp i s.l1 }
restamped stamp (L2 i) s = record s { l2 = restamped_at stamp i s.l2 }
restamped stamp (Closed i) s = record s { closed = option_map (restamped_at stamp i) s.closed }
restamped stamp (Main p i) s = record s { parts = slice_set s.parts p (restamped_at stamp i (get_or s.parts p [])) }
