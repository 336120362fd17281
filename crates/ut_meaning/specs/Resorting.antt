-- Re-sorted order: the places of a part, sorted by the columns, which are sorted by their number of different keys.
use Rattle.std.specs.Prelude.{◌≡◌, ◌≢◌, ℕ, ◌<◌, List, length, get_or}
use Rattle.std.specs.List.{range_with_len}
use Rattle.std.specs.List.Sorted.{IsPermutation, IsSorted, IsSortedBy}
use Rattle.ut_plain.specs.declared.stage.Placed.{Placed}
use Rattle.ut_plain.specs.Merges.{column_order, comes_first, place_cmp, resorted, width_of}

-- ---- columns

-- each column once, those with fewer different keys first, on a tie the one that stands first
pub record AreByCount (places : List Placed) (columns : List ℕ) : Type 0 where
  pub each : IsPermutation (range_with_len 0 (width_of places)) columns
  pub sorted : IsSortedBy (comes_first places) columns

-- that is the order of the columns
abbrev pub ColumnsAreByCount : Type 0
ColumnsAreByCount = (places : List Placed) → AreByCount places (column_order places)

-- and there is no other
abbrev pub IsOnlyColumnOrder : Type 0
IsOnlyColumnOrder = (places : List Placed) (columns : List ℕ) → AreByCount places columns → columns ≡ column_order places

-- ---- places

-- each place once, by their keys in the columns in that order, and then by id
pub record AreResorted (places moved : List Placed) : Type 0 where
  pub columns : List ℕ
  pub by_count : AreByCount places columns
  pub each : IsPermutation places moved
  pub sorted : IsSorted (place_cmp columns) moved

-- no two places have one id
abbrev pub HaveOwnIds : List Placed → Type 0
HaveOwnIds places = (i k : ℕ) (d : Placed) → i < k → k < length places → (get_or places i d).id ≢ (get_or places k d).id

-- those are the re-sorted places
abbrev pub PlacesAreResorted : Type 0
PlacesAreResorted = (places : List Placed) → AreResorted places (resorted places)

-- and where ids differ there are no others
abbrev pub IsOnlyResorted : Type 0
IsOnlyResorted = (places moved : List Placed) → HaveOwnIds places → AreResorted places moved → moved ≡ resorted places
