-- Places and columns, each put in its place among those before it, are all of them, sorted; and there is one such order.
use Rattle.std.proofs.Common.{◌≡◌, ◌≢◌, ℕ, ◌<◌, Bool, false, cond, List, [], ◌∷◌, get_or, refl, sym, ap, ◌∙◌, subst, arith}
use Rattle.std.specs.List.{range_with_len, IsDistinct}
use Rattle.std.specs.List.Sorted.{IsPermutation, IsSorted, IsSortedBy}
use Rattle.std.specs.Cmp.{IsTotalOrder}
use Rattle.std.specs.Ordering.{nat_cmp, is_lt, is_eq, eq_by_cmp, ordering_then, MatchOrdering}
use Rattle.std.specs.declared.cmp.Ordering.{Ordering}
use Rattle.std.specs.declared.cmp.Ordering.TheVariants.{Less, Equal, Greater}
use Rattle.std.proofs.lemmas.Cmp.{nat_cmp_total, nat_list_cmp_total, on_total, then_total, ranked}
use Rattle.std.proofs.lemmas.List.FromFn.{length-range_with_len, get_or-range_with_len}
use Rattle.std.proofs.lemmas.Map.Keys.{IsDistinct-from_apart}
use Rattle.ut_key.specs.Keys.{key_cmp}
use Rattle.ut_plain.specs.declared.stage.Placed.{Placed}
use Rattle.ut_plain.specs.Merges.{put, in_order, column_order, comes_first, distinct_in, key_in, place_cmp, width_of}
use Rattle.ut_resort.specs.Resorted.{in_order as order_in, put as put_in}
use Rattle.ut_resort.proofs.OrderLemmas.{only_order}
use Rattle.ut_resort.proofs.PairLemmas.{then-test}
use Rattle.ut_resort.proofs.PutLemmas.{in_order-moved, in_order-sorted}
use Rattle.ut_meaning.specs.Resorting.{ColumnsAreByCount, IsOnlyColumnOrder, IsOnlyResorted, PlacesAreResorted}

-- ---- lists in order

put-same : {X : Type 0} (before : X → X → Bool) (x : X) (xs : List X) → put_in before x xs ≡ put before x xs
put-same before x [] = refl
put-same before x (y ∷ ys) = λ i. cond (before y x) (y ∷ put-same before x ys i) (x ∷ y ∷ ys)

order-same : {X : Type 0} (before : X → X → Bool) (xs : List X) → order_in before xs ≡ in_order before xs
order-same before [] = refl
order-same before (x ∷ xs) = put-same before x (order_in before xs) ∙ ap (put before x) (order-same before xs)

-- by an order they are all elements, sorted, and where no two tie there is no other such list
module _ {X : Type 0} {R : X → X → Ordering} (o : IsTotalOrder R) (before : X → X → Bool) (is : (λ (a : X) (b : X). is_lt (R a b)) ≡ before) (xs : List X) where
  same : order_in (λ a b. is_lt (R a b)) xs ≡ in_order before xs
  same = ap (λ f. order_in f xs) is ∙ order-same before xs

  all_there : IsPermutation xs (in_order before xs)
  all_there = subst (IsPermutation xs) same (in_order-moved (λ a b. is_lt (R a b)) xs)

  are_sorted : IsSortedBy before (in_order before xs)
  are_sorted = subst (λ f. IsSortedBy f (in_order before xs)) is (subst (IsSorted R) same (in_order-sorted o xs))

  no_other : IsDistinct (eq_by_cmp R) xs → (ys : List X) → IsPermutation xs ys → IsSortedBy before ys → ys ≡ in_order before xs
  no_other differ ys moved sorted = only_order o xs ys differ moved (subst (λ f. IsSortedBy f ys) (sym is) sorted) ∙ same

behind : (o p : Ordering) → is_eq p ≡ false → is_eq (ordering_then o p) ≡ false
behind Less p h = refl
behind Equal p h = h
behind Greater p h = refl

numbers-apart : (a b : ℕ) → a ≢ b → is_eq (nat_cmp a b) ≡ false
numbers-apart a b other = by (nat_cmp a b) (ranked a b (nat_cmp a b) refl)
  where
    by : (o : Ordering) → MatchOrdering o (a < b) (a ≡ b) (b < a) → is_eq o ≡ false
    by Less h = refl
    by Equal h = absurd (other h)
    by Greater h = refl

-- ---- the order of the columns

module _ (places : List Placed) where
  abbrev columns_cmp : ℕ → ℕ → Ordering
  columns_cmp a b = ordering_then (nat_cmp (distinct_in places a) (distinct_in places b)) (nat_cmp a b)

  columns-total : IsTotalOrder columns_cmp
  columns-total = then_total (on_total (distinct_in places) nat_cmp_total) nat_cmp_total

  first-is : (λ (a : ℕ) (b : ℕ). is_lt (columns_cmp a b)) ≡ comes_first places
  first-is = λ i a b. then-test (distinct_in places a) (distinct_in places b) a b i

  abbrev columns : List ℕ
  columns = range_with_len 0 (width_of places)

  columns-differ : IsDistinct (eq_by_cmp columns_cmp) columns
  columns-differ = IsDistinct-from_apart (eq_by_cmp columns_cmp) columns (λ i j d lt small.
      let long = length-range_with_len 0 (width_of places) in
      let first = get_or-range_with_len 0 (width_of places) i d (omega (arith, lt, small, long)) in
      let second = get_or-range_with_len 0 (width_of places) j d (omega (arith, small, long)) in
      let x = get_or columns i d in
      let y = get_or columns j d in
      behind (nat_cmp (distinct_in places x) (distinct_in places y)) (nat_cmp x y) (numbers-apart x y (λ e. omega (arith, first, second, lt, e))))

pub columns-by_count : ColumnsAreByCount
columns-by_count places = record {
  each = all_there (columns-total places) (comes_first places) (first-is places) (columns places);
  sorted = are_sorted (columns-total places) (comes_first places) (first-is places) (columns places);
}

pub columns-only : IsOnlyColumnOrder
columns-only places by h = no_other (columns-total places) (comes_first places) (first-is places) (columns places) (columns-differ places) by h.each h.sorted

-- ---- places

place_cmp-total : (by : List ℕ) → IsTotalOrder (place_cmp by)
place_cmp-total [] = on_total (λ (p : Placed). p.id) nat_cmp_total
place_cmp-total (column ∷ by) = then_total (on_total (key_in column) nat_list_cmp_total) (place_cmp-total by)

told_apart : (by : List ℕ) (a b : Placed) → a.id ≢ b.id → eq_by_cmp (place_cmp by) a b ≡ false
told_apart [] a b other = numbers-apart a.id b.id other
told_apart (column ∷ by) a b other = behind (key_cmp (key_in column a) (key_in column b)) (place_cmp by a b) (told_apart by a b other)

pub places-resorted : PlacesAreResorted
places-resorted places = record {
  columns = column_order places;
  by_count = columns-by_count places;
  each = all_there (place_cmp-total (column_order places)) (λ a b. is_lt (place_cmp (column_order places) a b)) refl places;
  sorted = are_sorted (place_cmp-total (column_order places)) (λ a b. is_lt (place_cmp (column_order places) a b)) refl places;
}

pub resorted-only : IsOnlyResorted
resorted-only places moved own h =
    no_other (place_cmp-total (column_order places)) (λ a b. is_lt (place_cmp (column_order places) a b)) refl places
    (IsDistinct-from_apart (eq_by_cmp (place_cmp (column_order places))) places (λ i j d lt small. told_apart (column_order places) (get_or places i d) (get_or places j d) (own i j d lt small)))
    moved h.each (subst (λ by. IsSorted (place_cmp by) moved) (columns-only places h.columns h.by_count) h.sorted)
