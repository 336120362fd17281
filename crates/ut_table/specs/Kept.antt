-- What a table keeps: rows that fit its columns, each with a stamp at its place.
use Rattle.std.specs.Prelude.{ℕ, ◌≡◌, ◌+◌, ◌<◌, ◌≤◌, ◌^◌, List, length, map, get_or, All, IsTrue, Some}
use Rattle.std.specs.List.{list_all}
use Rattle.std.specs.Option.{option_map}
use Rattle.ut_value.specs.declared.value.Column.{Column}
use Rattle.ut_value.specs.declared.value.Row.{Row}
use Rattle.ut_value.specs.KeyBytes.{is_value}
use Rattle.ut_l2.specs.KeyRows.{KeyRow, keyed, no_row}
use Rattle.ut_l2.specs.Delta.{Delta}
use Rattle.ut_plain.specs.Tables.{fits_columns}
use Rattle.ut_table.specs.Decoded.{decoded_row}
use Rattle.ut_merge.specs.Jobs.{IsJob}
use Rattle.ut_table.specs.Contents.{Contents, PendingValue, closed_rows, job_in}

-- a row has a value for each column, of its kind and under the rule of values
pub record IsRow (columns : List Column) (row : Row) : Type 0 where
  pub fits : IsTrue (fits_columns columns row.values)
  pub kept : IsTrue (list_all is_value row.values)

-- a row of keys stands for a row that fits the columns
pub record IsHeld (columns : List Column) (row : KeyRow) : Type 0 where
  pub fit : IsRow columns (decoded_row columns row)
  pub keys : keyed (decoded_row columns row) ≡ row

-- among rows of so many columns one stands at a place, and for a row that fits these
pub record HoldsRow (columns : List Column) (width : ℕ) (rows : List KeyRow) (i : ℕ) : Type 0 where
  pub narrow : length columns ≤ 64
  pub wide : width ≡ length columns
  pub place : i < length rows
  pub held : IsHeld columns (get_or rows i no_row)

-- a stage under these columns, whose rows stand for rows that fit them
pub record IsStage (columns : List Column) (stage : Delta) : Type 0 where
  pub narrow : length columns ≤ 64
  pub wide : stage.width ≡ length columns
  pub rows : All (IsHeld columns) stage.rows

-- The rows of each stage stand for rows that fit the columns.
pub record AreRows (t : Contents) : Type 0 where
  pub narrow : length t.columns ≤ 64
  pub l1 : All (IsRow t.columns) t.l1
  pub l2_wide : t.l2.width ≡ length t.columns
  pub l2 : All (IsHeld t.columns) t.l2.rows
  pub closed_wide : (p : PendingValue) → t.pending ≡ Some p → p.closed.width ≡ length t.columns
  pub closed : All (IsHeld t.columns) (closed_rows t.pending)
  pub main_wide : t.main.width ≡ length t.columns
  pub parts : All (All (IsHeld t.columns)) t.main.parts

-- Each row has a stamp at its place.
pub record AreStamped (t : Contents) : Type 0 where
  pub l1 : length t.stamps.l1.items ≡ length t.l1
  pub l2 : length t.stamps.l2.items ≡ length t.l2.rows
  pub closed : option_map length t.stamps.closed ≡ option_map (λ (p : PendingValue). length p.closed.rows) t.pending
  pub parts : map length t.stamps.parts ≡ map length t.main.parts

pub record IsTable (t : Contents) : Type 0 where
  pub rows : AreRows t
  pub stamped : AreStamped t
  -- a pending merge may be built
  pub job : (p : PendingValue) → t.pending ≡ Some p → IsJob (job_in t p)
  pub few : length t.l1 + length t.l2.rows + length (closed_rows t.pending) ≤ 2 ^ 31
