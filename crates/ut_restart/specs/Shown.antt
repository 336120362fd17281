-- The stages of an image's tables, as a table in memory holds them.
use Rattle.std.specs.Prelude.{ℕ, ◌+◌, ◌≤◌, ◌≡◌, Bool, cond, not, List, [], ◌∷◌, length, map, None}
use Rattle.std.specs.List.{sum_by}
use Rattle.ut_value.specs.declared.value.Column.{Column}
use Rattle.ut_plain.specs.declared.stage.Placed.{Placed}
use Rattle.ut_plain.specs.declared.stage.TableStages.{TableStages}
use Rattle.ut_plain.specs.Stages.{Stages}
use Rattle.ut_stamps.specs.declared.visibility.Stamp.{Stamp}
use Rattle.ut_exact.specs.Places.{StagedRow, dead_number}
use Rattle.ut_staged.specs.Staged.{Staged}
use Rattle.ut_main.specs.Parts.{MainValue}
use Rattle.ut_image.specs.declared.drawn.PartRef.{PartRef}
use Rattle.ut_image.specs.declared.drawn.Drawn.{Drawn}
use Rattle.ut_durable.specs.Rules.{IsImageTable}
use Rattle.ut_durable.specs.Bytes.{row_in, main_of, live_marks}

-- begun by the transaction that is committed before all else, or by the one that aborted
abbrev pub stamp_of : Bool → Stamp
stamp_of dead = record { begin = cond dead dead_number 0; end = None }

-- the stamp of a row, by its mark in a directory
abbrev pub stamp_of_mark : Bool → Stamp
stamp_of_mark live = stamp_of (not live)

-- a place of an image, as memory holds it
abbrev pub staged_place : Placed → StagedRow
staged_place p = record { id = p.id; values = p.values; stamp = stamp_of p.dead }

-- the stages of a table of which nothing is being merged
abbrev pub staged_of : List Column → TableStages → Staged
staged_of columns s = record {
  columns = columns;
  l1 = map staged_place s.l1;
  l2 = map staged_place s.l2;
  closed = None;
  parts = map (map staged_place) s.parts;
  keep = [];
  merge = None;
}

-- the stages of all tables, in order
abbrev pub staged_all : List Drawn → Stages → List Staged
staged_all [] ss = []
staged_all (t ∷ ts) [] = []
staged_all (t ∷ ts) (s ∷ ss) = staged_of t.table.columns s ∷ staged_all ts ss

-- ---- what shows them

-- which rows of each part are live
abbrev pub marks_of : List PartRef → List (List Bool)
marks_of refs = map (λ (ref : PartRef). ref.live) refs

-- how many rows stand in the deltas
abbrev pub delta_count : List Drawn → ℕ
delta_count tables = sum_by (λ (t : Drawn). length t.l2 + length t.l1) tables

-- a table of an image, and its main, have these stages
pub record IsShown (t : Drawn) (main : MainValue) (s : TableStages) : Type 0 where
  pub narrow : length t.table.columns ≤ 64
  pub rules : IsImageTable t.table.columns s
  pub l2 : t.l2 ≡ map row_in s.l2
  pub l1 : t.l1 ≡ map row_in s.l1
  pub marks : marks_of t.parts ≡ map live_marks s.parts
  pub keys : main ≡ main_of (length t.table.columns) s.parts

-- each table has its own
abbrev pub AreShown : List Drawn → List MainValue → Stages → Type 0
AreShown [] [] [] = Unit {0}
AreShown [] [] (s ∷ ss) = ⊥
AreShown [] (main ∷ mains) ss = ⊥
AreShown (t ∷ ts) [] ss = ⊥
AreShown (t ∷ ts) (main ∷ mains) [] = ⊥
AreShown (t ∷ ts) (main ∷ mains) (s ∷ ss) = IsShown t main s × AreShown ts mains ss
