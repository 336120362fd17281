-- The two forms of rows.
use Rattle.std.specs.Prelude.{ℕ, ◌≡◌, List, [], length, All}
use Rattle.ut_value.specs.declared.value.Value.{Value}
use Rattle.ut_rows.specs.Columns.{rows_of}
use Rattle.ut_rows.specs.declared.rows.Form.{Form}
use Rattle.ut_rows.specs.declared.rows.Form.TheVariants as forms

-- the rows that a form has
abbrev pub rows_in : Form → List (List Value)
rows_in (forms.Lists rows) = rows
rows_in (forms.Columns n columns) = rows_of n columns.items

-- the columns that a form has
abbrev pub columns_in : Form → List (List Value)
columns_in (forms.Lists rows) = []
columns_in (forms.Columns n columns) = columns.items

-- how many rows a form has
abbrev pub count_in : Form → ℕ
count_in (forms.Lists rows) = length rows
count_in (forms.Columns n columns) = n

-- each column has a value for each row
pub record IsWhole (form : Form) : Type 0 where
  pub each : All (λ column. length column ≡ count_in form) (columns_in form)
