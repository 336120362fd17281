-- What a table holds: the rows of its stages, those in columns as their keys, and their stamps.
use Rattle.std.specs.Prelude.{ℕ, Bool, List, [], ◌∷◌, map, Option}
use Rattle.std.specs.Option.{option_map, unwrap_or}
use Rattle.ut_value.specs.declared.value.Column.{Column}
use Rattle.ut_value.specs.declared.value.Row.{Row}
use Rattle.ut_plain.specs.declared.stage.PendingMerge.{PendingMerge}
use Rattle.ut_stamps.specs.declared.visibility.Stamp.{Stamp}
use Rattle.ut_exact.specs.Places.{StagedRow}
use Rattle.ut_l2.specs.KeyRows.{KeyRow}
use Rattle.ut_l2.specs.Delta.{Delta}
use Rattle.ut_main.specs.Parts.{MainValue}
use Rattle.ut_stamps.specs.StampLists.{StampLists}
use Rattle.ut_merge.specs.Jobs.{JobValue, job_value}
use Rattle.ut_staged.specs.Staged.{Staged, stamped_row}
use Rattle.ut_table.specs.Decoded.{decoded_row}

-- a pending merge: the stage that it closed, and which places it keeps
pub record PendingValue : Type 0 where
  pub head : PendingMerge
  pub closed : Delta
  pub keep : List (List Bool)

pub record Contents : Type 0 where
  pub columns : List Column
  pub l1 : List Row
  pub l2 : Delta
  pub main : MainValue
  pub pending : Option PendingValue
  pub stamps : StampLists

-- the rows of the closed stage, where there is one
abbrev pub closed_rows : Option PendingValue → List KeyRow
closed_rows pending = unwrap_or (option_map (λ (p : PendingValue). p.closed.rows) pending) []

-- what a pending merge freezes
abbrev pub job_in : Contents → PendingValue → JobValue
job_in t p = job_value p.head t.main p.closed.rows p.keep

-- ---- as rows with stamps

-- rows with the stamps at their places
abbrev pub stamped_rows : List Row → List Stamp → List StagedRow
stamped_rows [] stamps = []
stamped_rows (row ∷ rows) [] = []
stamped_rows (row ∷ rows) (stamp ∷ stamps) = stamped_row stamp row ∷ stamped_rows rows stamps

-- the rows whose keys these are
abbrev pub decoded_rows : List Column → List KeyRow → List Row
decoded_rows columns rows = map (decoded_row columns) rows

-- rows of keys with the stamps at their places
abbrev pub held : List Column → List KeyRow → List Stamp → List StagedRow
held columns rows stamps = stamped_rows (decoded_rows columns rows) stamps

-- the same of parts
abbrev pub held_parts : List Column → List (List KeyRow) → List (List Stamp) → List (List StagedRow)
held_parts columns [] stamps = []
held_parts columns (rows ∷ parts) [] = []
held_parts columns (rows ∷ parts) (list ∷ stamps) = held columns rows list ∷ held_parts columns parts stamps

-- the stages that a contract sees
abbrev pub staged : Contents → Staged
staged t = record {
  columns = t.columns;
  l1 = stamped_rows t.l1 t.stamps.l1.items;
  l2 = held t.columns t.l2.rows t.stamps.l2.items;
  closed = option_map (λ (p : PendingValue). held t.columns p.closed.rows (unwrap_or t.stamps.closed [])) t.pending;
  parts = held_parts t.columns t.main.parts t.stamps.parts;
  keep = unwrap_or (option_map (λ (p : PendingValue). p.keep) t.pending) [];
  merge = option_map (λ (p : PendingValue). p.head) t.pending;
}

-- a table as contracts see it: its stages, and how many rows the first takes without memory
pub record TableValue : Type 0 where
  pub stages : Staged
  pub spare : ℕ
