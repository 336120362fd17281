-- Found rows that are there and fit the columns of their table.
use Rattle.std.specs.Prelude.{ℕ, Bool, false, ◌&&◌, pos, List, [], slice_get, unwrap_or, Option, None, Some, IsTrue, All}
use Rattle.std.specs.List.{list_all}
use Rattle.ut_value.specs.declared.value.Value.{Value}
use Rattle.ut_value.specs.declared.value.Value.TheVariants.{Int}
use Rattle.ut_value.specs.declared.value.Column.{Column}
use Rattle.ut_value.specs.KeyBytes.{is_value}
use Rattle.ut_plain.specs.Tables.{fits_columns}
use Rattle.ut_scan.specs.declared.place.Found.{Found}
use Rattle.ut_exact.specs.Places.{StagedRow}
use Rattle.ut_staged.specs.Staged.{Staged, row_at}

-- whether a row is there, with one value for each column, of its kind and under its rule
abbrev pub is_row : List Column → Option StagedRow → Bool
is_row columns None = false
is_row columns (Some row) = fits_columns columns row.values && list_all is_value row.values

-- each row that was found is there and fits the columns
pub record Fit (s : Staged) (found : List Found) : Type 0 where
  pub each : All (λ (f : Found). IsTrue (is_row s.columns (row_at s f.place))) found

-- the values of a row that was found
abbrev pub values_in : Option StagedRow → List Value
values_in None = []
values_in (Some row) = row.values

abbrev pub values_at : Staged → Found → List Value
values_at s f = values_in (row_at s f.place)

-- its value in the column at a place
abbrev pub cell : Staged → ℕ → Found → Value
cell s column f = unwrap_or (slice_get (values_at s f) column) (Int (pos 0))
