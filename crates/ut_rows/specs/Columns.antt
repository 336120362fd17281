-- Rows by their columns.
use Rattle.std.specs.Prelude.{ℕ, pos, List, map, get_or}
use Rattle.std.specs.List.{range_with_len}
use Rattle.ut_value.specs.declared.value.Value.{Value}
use Rattle.ut_value.specs.declared.value.Value.TheVariants.{Int}

-- the value that stands in a place
abbrev pub value_in : List Value → ℕ → Value
value_in values place = get_or values place (Int (pos 0))

-- the values that stand in these places
abbrev pub values_at : List Value → List ℕ → List Value
values_at values places = map (value_in values) places

-- so many rows: of each the value in each column
abbrev pub rows_of : ℕ → List (List Value) → List (List Value)
rows_of n columns = map (λ row. map (λ column. value_in column row) columns) (range_with_len 0 n)
