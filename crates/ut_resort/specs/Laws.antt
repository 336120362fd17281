-- What re-sorted order has to do with keys and with ids.
use Rattle.std.specs.Prelude.{◌≡◌, ◌≢◌, ℕ, ◌<◌, List, length, get_or}
use Rattle.std.specs.List.{range_with_len}
use Rattle.std.specs.List.Sorted.{IsPermutation, IsSorted}
use Rattle.ut_resort.specs.Resorted.{column_cmp, columns_by, row_cmp, row_key_cmp, IsCoded}

-- rows whose codes are places in dictionaries of ascending keys stand in the order of their keys
abbrev pub OrdersByKeys : Type 0
OrdersByKeys =
    (by : List ℕ) (dicts : ℕ → List (List ℕ)) (key : ℕ → ℕ → List ℕ) (columns : List (List ℕ)) (ids : List ℕ) (a b : ℕ)
    → IsCoded by dicts key columns a → IsCoded by dicts key columns b
    → row_cmp by columns ids a b ≡ row_key_cmp by key ids a b

-- where ids differ, there is one list of all rows in order
abbrev pub IsOnlyOrder : Type 0
IsOnlyOrder =
    (by : List ℕ) (columns : List (List ℕ)) (ids places others : List ℕ)
    → ((a b : ℕ) → a < b → b < length ids → get_or ids a 0 ≢ get_or ids b 0)
    → IsPermutation (range_with_len 0 (length ids)) places → IsSorted (row_cmp by columns ids) places
    → IsPermutation (range_with_len 0 (length ids)) others → IsSorted (row_cmp by columns ids) others
    → places ≡ others

-- each column once, by its number of different keys, on a tie by its place
pub record AreByCount (distinct by : List ℕ) : Type 0 where
  pub each : IsPermutation (range_with_len 0 (length distinct)) by
  pub sorted : IsSorted (column_cmp distinct) by

-- that is the order of the columns
abbrev pub ColumnsAreByCount : Type 0
ColumnsAreByCount = (distinct : List ℕ) → AreByCount distinct (columns_by distinct)

-- and there is no other
abbrev pub IsOnlyColumnOrder : Type 0
IsOnlyColumnOrder = (distinct by : List ℕ) → AreByCount distinct by → by ≡ columns_by distinct
