-- Rows on their way into columns.
use Rattle.std.specs.Prelude.{◌≡◌, ℕ, ◌+◌, ◌*◌, ◌/◌, ◌<◌, List, [], length, map, get_or, All}
use Rattle.std.specs.List.{flat_map, range_with_len}
use Rattle.ut_value.specs.KeyBytes.{key_of}
use Rattle.ut_value.specs.declared.value.Row.{Row}
use Rattle.ut_value.specs.declared.value.Value.{Value}
use Rattle.ut_l2.specs.declared.source.Source.{Source}
use Rattle.ut_l2.specs.declared.source.Source.TheVariants.{Rows, Flat}
use Rattle.ut_l2.specs.KeyRows.{cell}

-- The values of the rows, one row's behind the other's, are these, and their ids count from one on.
pub record AreFlat (rows : List Row) (first_id width : ℕ) (values : List Value) : Type 0 where
  pub ids : map (λ (r : Row). r.id) rows ≡ range_with_len first_id (length rows)
  pub wide : All (λ (r : Row). length r.values ≡ width) rows
  pub flat : flat_map (λ (r : Row). r.values) rows ≡ values

-- how many rows there are
abbrev pub count_in : Source → ℕ
count_in (Rows rows) = length rows.now
count_in (Flat width values) = length values.now / width

-- rows that stand as their values have at least one each
abbrev pub IsSource : Source → Type 0
IsSource (Rows rows) = Unit {0}
IsSource (Flat width values) = 0 < width

-- each row has a value in the column
abbrev pub HasColumn : Source → ℕ → Type 0
HasColumn (Rows rows) j = All (λ (r : Row). j < length r.values) rows.now
HasColumn (Flat width values) j = j < width

-- the key of a row's value in a column
abbrev pub key_in : Source → ℕ → ℕ → List ℕ
key_in (Rows rows) j i = get_or (map (cell j) rows.now) i []
key_in (Flat width values) j i = get_or (map key_of values.now) (i * width + j) []

-- the keys in a column of n rows from one on
abbrev pub cells_in : Source → ℕ → ℕ → ℕ → List (List ℕ)
cells_in source j from n = map (key_in source j) (range_with_len from n)
