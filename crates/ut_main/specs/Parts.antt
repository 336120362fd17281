-- The rows of a part, the dictionaries that it stands behind, and main as its parts.
use Rattle.std.specs.Prelude.{◌≡◌, ℕ, suc, ◌<◌, ◌≤◌, All, List, [], ◌∷◌, length, map, take, get_or, replicate}
use Rattle.std.specs.Arc.{arc_value}
use Rattle.std.specs.List.{sum_by}
use Rattle.std.specs.declared.sync.Arc.{Arc}
use Rattle.ut_l2.specs.KeyRows.{KeyRow, cells_at}
use Rattle.ut_l2.specs.Delta.{rows_of}
use Rattle.ut_main.specs.Columns.{Chain, ColumnValue, chain_of, no_column}

-- a part as contracts see it: for each column the dictionaries that it stands behind, and its rows
pub record PartValue : Type 0 where
  pub before : List Chain
  pub rows : List KeyRow

-- what stands past the last part
abbrev pub no_part : PartValue
no_part = record { before = []; rows = [] }

-- the part that ids and columns hold
abbrev pub part_value : List ℕ → List ColumnValue → PartValue
part_value ids columns = record { before = map (λ c. c.before) columns; rows = rows_of ids (map (λ c. c.cells) columns) }

-- the dictionaries of a part's column, its own one last
abbrev pub part_chain : ℕ → PartValue → Chain
part_chain j part = chain_of (get_or part.before j []) (cells_at j part.rows)

-- each column has a cell for each row, and rows may be counted
pub record IsPart (ids : List ℕ) (columns : List ColumnValue) : Type 0 where
  pub few : length ids ≤ 2147483647
  pub equal : (j : ℕ) → j < length columns → length (get_or columns j no_column).cells ≡ length ids

-- each row has a key in each column
abbrev pub AreWide : ℕ → List KeyRow → Type 0
AreWide width rows = All (λ row. length row.keys ≡ width) rows

-- ---- main

-- the dictionaries of all columns with the own ones of rows behind them, from a column on
abbrev pub with_own : ℕ → List Chain → List KeyRow → List Chain
with_own j [] rows = []
with_own j (chain ∷ chains) rows = chain_of chain (cells_at j rows) ∷ with_own (suc j) chains rows

-- the dictionaries of all columns behind parts of these rows
abbrev pub dicts_of : List Chain → List (List KeyRow) → List Chain
dicts_of dicts [] = dicts
dicts_of dicts (rows ∷ parts) = dicts_of (with_own 0 dicts rows) parts

-- main as contracts see it: how many columns it has, and the rows of its parts
pub record MainValue : Type 0 where
  pub width : ℕ
  pub parts : List (List KeyRow)

-- the dictionaries behind all parts of main
abbrev pub dicts_behind : MainValue → List Chain
dicts_behind main = dicts_of (replicate main.width []) main.parts

-- the first parts of main, so many
abbrev pub first_parts : ℕ → MainValue → MainValue
first_parts n main = record { width = main.width; parts = take n main.parts }

-- how many rows the parts have
abbrev pub rows_in : MainValue → ℕ
rows_in main = sum_by length main.parts

-- the parts that are shared
abbrev pub shared_parts : {Z : Type 0} → List (Arc PartValue Z) → List PartValue
shared_parts parts = map (λ part. arc_value part) parts

-- main of such parts
abbrev pub main_value : ℕ → List PartValue → MainValue
main_value width parts = record { width = width; parts = map (λ (part : PartValue). part.rows) parts }

-- few parts and rows, and each part stands behind the dictionaries of the parts before it
pub record IsMain (width : ℕ) (parts : List PartValue) : Type 0 where
  pub few : length parts ≤ 8
  pub rows : rows_in (main_value width parts) ≤ 2147483647
  pub behind : (p : ℕ) → p < length parts → (get_or parts p no_part).before ≡ dicts_behind (first_parts p (main_value width parts))
