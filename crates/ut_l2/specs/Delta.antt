-- The rows that columns of cells hold.
use Rattle.std.specs.Prelude.{◌≡◌, ℕ, ◌<◌, ◌≤◌, ◌^◌, List, [], length, map, get_or}
use Rattle.std.specs.List.{range_with_len}
use Rattle.ut_l2.specs.KeyRows.{KeyRow}

-- rows of so many columns each
pub record Delta : Type 0 where
  pub width : ℕ
  pub rows : List KeyRow

-- the row at a place, of columns
abbrev pub row_at : List ℕ → List (List (List ℕ)) → ℕ → KeyRow
row_at ids columns i = record { id = get_or ids i 0; keys = map (λ c. get_or c i []) columns }

-- the rows that ids and columns hold
abbrev pub rows_of : List ℕ → List (List (List ℕ)) → List KeyRow
rows_of ids columns = map (row_at ids columns) (range_with_len 0 (length ids))

-- each column has a cell for each row
pub record IsDelta (ids : List ℕ) (columns : List (List (List ℕ))) : Type 0 where
  pub equal : (j : ℕ) → j < length columns → length (get_or columns j []) ≡ length ids
  pub count : length ids ≤ 2 ^ 31
