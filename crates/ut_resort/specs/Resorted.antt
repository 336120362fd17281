-- Re-sorted order: columns by their number of different keys, rows by their codes in that order of the columns.
use Rattle.std.specs.Prelude.{◌≡◌, ℕ, ◌<◌, Bool, if◌then◌else◌, All, List, [], ◌∷◌, length, map, get_or}
use Rattle.std.specs.Global.{Vec}
use Rattle.std.specs.List.{range_with_len}
use Rattle.std.specs.Ordering.{nat_cmp, is_lt, ordering_then}
use Rattle.std.specs.declared.cmp.Ordering.{Ordering}
use Rattle.ut_key.specs.Keys.{key_cmp, IsAscending}

-- one more in a list that is in the order of a test
abbrev pub put : {X : Type 0} → (X → X → Bool) → X → List X → List X
put before x [] = x ∷ []
put before x (y ∷ ys) = if before y x then y ∷ put before x ys else x ∷ y ∷ ys

-- a list in the order of a test
abbrev pub in_order : {X : Type 0} → (X → X → Bool) → List X → List X
in_order before [] = []
in_order before (x ∷ xs) = put before x (in_order before xs)

-- a column with fewer different keys comes first, on a tie the one that stands first
abbrev pub column_cmp : List ℕ → ℕ → ℕ → Ordering
column_cmp distinct a b = ordering_then (nat_cmp (get_or distinct a 0) (get_or distinct b 0)) (nat_cmp a b)

-- the columns in that order
abbrev pub columns_by : List ℕ → List ℕ
columns_by distinct = in_order (λ a b. is_lt (column_cmp distinct a b)) (range_with_len 0 (length distinct))

-- the codes of each column
abbrev pub codes_of : List (Vec ℕ) → List (List ℕ)
codes_of columns = map (λ column. column.items) columns

-- the code of a row in a column
abbrev pub code_at : List (List ℕ) → ℕ → ℕ → ℕ
code_at columns column row = get_or (get_or columns column []) row 0

-- rows by their codes in these columns, the first column that tells them apart, and then by id
abbrev pub row_cmp : List ℕ → List (List ℕ) → List ℕ → ℕ → ℕ → Ordering
row_cmp [] columns ids a b = nat_cmp (get_or ids a 0) (get_or ids b 0)
row_cmp (column ∷ by) columns ids a b =
    ordering_then (nat_cmp (code_at columns column a) (code_at columns column b)) (row_cmp by columns ids a b)

-- rows by their keys in these columns, and then by id
abbrev pub row_key_cmp : List ℕ → (ℕ → ℕ → List ℕ) → List ℕ → ℕ → ℕ → Ordering
row_key_cmp [] key ids a b = nat_cmp (get_or ids a 0) (get_or ids b 0)
row_key_cmp (column ∷ by) key ids a b = ordering_then (key_cmp (key column a) (key column b)) (row_key_cmp by key ids a b)

-- in each of these columns the row's code is the place of its key in a dictionary of ascending keys
pub record IsCoded (by : List ℕ) (dicts : ℕ → List (List ℕ)) (key : ℕ → ℕ → List ℕ) (columns : List (List ℕ)) (row : ℕ) : Type 0 where
  pub ascending : All (λ column. IsAscending (dicts column)) by
  pub within : All (λ column. code_at columns column row < length (dicts column)) by
  pub keys : All (λ column. key column row ≡ get_or (dicts column) (code_at columns column row) []) by
