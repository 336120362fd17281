-- A table with one row, in its first stage, which everybody sees.
use Rattle.std.specs.Prelude.{◌≡◌, List, IsTrue}
use Rattle.std.specs.List.{list_all}
use Rattle.ut_value.specs.declared.value.Column.{Column}
use Rattle.ut_value.specs.declared.value.Row.{Row}
use Rattle.ut_value.specs.KeyBytes.{is_value}
use Rattle.ut_plain.specs.Tables.{fits_columns}
use Rattle.ut_staged.specs.Staged.{Staged, no_rows, begun_row, entered_l1}

pub record HasOneRow (columns : List Column) (s : Staged) : Type 0 where
  pub row : Row
  pub fits : IsTrue (fits_columns columns row.values)
  pub kept : IsTrue (list_all is_value row.values)
  pub is : s ≡ entered_l1 (begun_row 0 row) (no_rows columns)
