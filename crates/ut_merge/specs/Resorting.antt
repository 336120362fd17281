-- Rows of keys in the order of a re-sorting merge.
use Rattle.std.specs.Prelude.{ℕ, zero, ◌&&◌, ◌||◌, Bool, nat_eq, nat_lt, List, [], ◌∷◌, length}
use Rattle.std.specs.declared.cmp.Ordering.{Ordering}
use Rattle.std.specs.Ordering.{nat_cmp, is_lt, ordering_then}
use Rattle.std.specs.List.{range_with_len}
use Rattle.ut_key.specs.Keys.{key_cmp}
use Rattle.ut_l2.specs.KeyRows.{KeyRow, cells_at, key_at}
use Rattle.ut_plain.specs.Merges.{distinct, in_order}

-- how many different keys rows have in a column
abbrev pub distinct_in : List KeyRow → ℕ → ℕ
distinct_in rows column = distinct (cells_at column rows)

-- a column with fewer different keys comes first, on a tie the one that stands first
abbrev pub comes_first : List KeyRow → ℕ → ℕ → Bool
comes_first rows a b = nat_lt (distinct_in rows a) (distinct_in rows b) || (nat_eq (distinct_in rows a) (distinct_in rows b) && nat_lt a b)

-- how many columns rows have
abbrev pub width_of : List KeyRow → ℕ
width_of [] = zero
width_of (row ∷ rows) = length row.keys

-- the columns in that order
abbrev pub column_order : List KeyRow → List ℕ
column_order rows = in_order (comes_first rows) (range_with_len 0 (width_of rows))

-- rows by their keys in these columns, then by id
abbrev pub row_cmp : List ℕ → KeyRow → KeyRow → Ordering
row_cmp [] a b = nat_cmp a.id b.id
row_cmp (column ∷ columns) a b = ordering_then (key_cmp (key_at column a) (key_at column b)) (row_cmp columns a b)

-- rows in re-sorted order
abbrev pub resorted : List KeyRow → List KeyRow
resorted rows = in_order (λ a b. is_lt (row_cmp (column_order rows) a b)) rows
