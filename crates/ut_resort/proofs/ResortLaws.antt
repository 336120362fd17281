-- Re-sorted order is the order of the keys that the codes stand for, and there is no other where ids differ.
use Rattle.std.proofs.Common.{◌≡◌, ◌≢◌, ℕ, suc, ◌<◌, false, List, [], ◌∷◌, length, get_or, refl, sym, ap, ◌∙◌, arith}
use Rattle.std.specs.List.{range_with_len, IsDistinct}
use Rattle.std.specs.List.Sorted.{IsPermutation, IsSorted}
use Rattle.std.specs.Cmp.{IsTotalOrder, ranks}
use Rattle.std.specs.Ordering.{nat_cmp, is_eq, is_lt, eq_by_cmp, ordering_then, ordering_reverse, MatchOrdering}
use Rattle.std.specs.declared.cmp.Ordering.{Ordering}
use Rattle.std.specs.declared.cmp.Ordering.TheVariants.{Less, Equal, Greater}
use Rattle.std.proofs.lemmas.Cmp.{nat_cmp_total, nat_list_cmp_total, on_total, then_total, tied_itself}
use Rattle.std.proofs.lemmas.List.FromFn.{length-range_with_len, get_or-range_with_len}
use Rattle.std.proofs.lemmas.Map.Keys.{IsDistinct-from_apart}
use Rattle.ut_key.specs.Keys.{key_cmp, IsAscending}
use Rattle.ut_resort.specs.Resorted.{code_at, column_cmp, in_order, row_cmp, IsCoded}
use Rattle.ut_resort.specs.Laws.{ColumnsAreByCount, IsOnlyColumnOrder, IsOnlyOrder, OrdersByKeys}
use Rattle.ut_resort.proofs.OrderLemmas.{only_order}
use Rattle.ut_resort.proofs.PutLemmas.{in_order-moved, in_order-sorted}
use Rattle.ut_resort.proofs.SortLemmas.{column_cmp-total, columns_by-is}

-- ---- codes and keys

-- codes of one dictionary of ascending keys stand in the order of the keys
pub codes-as_keys : (keys : List (List ℕ)) (c d : ℕ) → IsAscending keys → c < length keys → d < length keys → nat_cmp c d ≡ key_cmp (get_or keys c []) (get_or keys d [])
codes-as_keys keys c d up hc hd = by (nat_cmp c d) (ranks c d)
  where
    by : (o : Ordering) → MatchOrdering o (c < d) (c ≡ d) (d < c) → o ≡ key_cmp (get_or keys c []) (get_or keys d [])
    by Less h = sym (up c d h hd)
    by Equal h = sym (ap (λ k. key_cmp (get_or keys c []) (get_or keys k [])) (sym h) ∙ tied_itself nat_list_cmp_total (get_or keys c []))
    by Greater h = sym (nat_list_cmp_total.antisymm (get_or keys c []) (get_or keys d []) ∙ ap ordering_reverse (up d c h hc))

-- So rows stand in the order of their keys.
pub row_cmp-keys : OrdersByKeys
row_cmp-keys [] dicts key columns ids a b ha hb = refl
row_cmp-keys (column ∷ by) dicts key columns ids a b ha hb =
    (λ i. ordering_then (first i) (row_cmp-keys by dicts key columns ids a b (tail a ha) (tail b hb) i))
  where
    some : 0 < length (column ∷ by)
    some = omega arith

    first : nat_cmp (code_at columns column a) (code_at columns column b) ≡ key_cmp (key column a) (key column b)
    first = codes-as_keys (dicts column) (code_at columns column a) (code_at columns column b) (ha.ascending 0 column some) (ha.within 0 column some) (hb.within 0 column some)
        ∙ (λ i. key_cmp (sym (ha.keys 0 column some) i) (sym (hb.keys 0 column some) i))

    tail : (row : ℕ) → IsCoded (column ∷ by) dicts key columns row → IsCoded by dicts key columns row
    tail row h = record {
      ascending = λ k d lt. h.ascending (suc k) d (omega (arith, lt));
      within = λ k d lt. h.within (suc k) d (omega (arith, lt));
      keys = λ k d lt. h.keys (suc k) d (omega (arith, lt));
    }

-- ---- the only order

row_cmp-total : (by : List ℕ) (columns : List (List ℕ)) (ids : List ℕ) → IsTotalOrder (row_cmp by columns ids)
row_cmp-total [] columns ids = on_total (λ (a : ℕ). get_or ids a 0) nat_cmp_total
row_cmp-total (column ∷ by) columns ids = then_total (on_total (λ (a : ℕ). code_at columns column a) nat_cmp_total) (row_cmp-total by columns ids)

-- two rows with different ids are told apart
told_apart : (by : List ℕ) (columns : List (List ℕ)) (ids : List ℕ) (a b : ℕ) → get_or ids a 0 ≢ get_or ids b 0 → eq_by_cmp (row_cmp by columns ids) a b ≡ false
told_apart [] columns ids a b other = by (nat_cmp (get_or ids a 0) (get_or ids b 0)) (ranks (get_or ids a 0) (get_or ids b 0))
  where
    by : (o : Ordering) → MatchOrdering o (get_or ids a 0 < get_or ids b 0) (get_or ids a 0 ≡ get_or ids b 0) (get_or ids b 0 < get_or ids a 0) → is_eq o ≡ false
    by Less h = refl
    by Equal h = absurd (other h)
    by Greater h = refl
told_apart (column ∷ by) columns ids a b other = behind (nat_cmp (code_at columns column a) (code_at columns column b)) (row_cmp by columns ids a b) (told_apart by columns ids a b other)
  where
    behind : (o p : Ordering) → is_eq p ≡ false → is_eq (ordering_then o p) ≡ false
    behind Less p h = refl
    behind Equal p h = h
    behind Greater p h = refl

module _ (by : List ℕ) (columns : List (List ℕ)) (ids : List ℕ) (other : (a b : ℕ) → a < b → b < length ids → get_or ids a 0 ≢ get_or ids b 0) where
  rows-differ : IsDistinct (eq_by_cmp (row_cmp by columns ids)) (range_with_len 0 (length ids))
  rows-differ = IsDistinct-from_apart (eq_by_cmp (row_cmp by columns ids)) (range_with_len 0 (length ids)) (λ i j d lt small.
      let long = length-range_with_len 0 (length ids) in
      let first = get_or-range_with_len 0 (length ids) i d (omega (arith, lt, small, long)) in
      let second = get_or-range_with_len 0 (length ids) j d (omega (arith, small, long)) in
      told_apart by columns ids (get_or (range_with_len 0 (length ids)) i d) (get_or (range_with_len 0 (length ids)) j d)
      (λ e. other i j lt (omega (arith, small, long)) (let x : get_or (range_with_len 0 (length ids)) i d ≡ i = omega (arith, first) in let y : get_or (range_with_len 0 (length ids)) j d ≡ j = omega (arith, second) in ap (λ k. get_or ids k 0) (sym x) ∙ e ∙ ap (λ k. get_or ids k 0) y)))

  one_order : (places : List ℕ) → IsPermutation (range_with_len 0 (length ids)) places → IsSorted (row_cmp by columns ids) places
      → places ≡ in_order (λ a b. is_lt (row_cmp by columns ids a b)) (range_with_len 0 (length ids))
  one_order places moved sorted = only_order (row_cmp-total by columns ids) (range_with_len 0 (length ids)) places rows-differ moved sorted

pub rows-only : IsOnlyOrder
rows-only by columns ids places others other moved sorted also rising =
    one_order by columns ids other places moved sorted ∙ sym (one_order by columns ids other others also rising)

-- ---- the order of the columns

pub columns-by_count : ColumnsAreByCount
columns-by_count distinct = record {
  each = in_order-moved (λ a b. is_lt (column_cmp distinct a b)) (range_with_len 0 (length distinct));
  sorted = in_order-sorted (column_cmp-total distinct) (range_with_len 0 (length distinct));
}

pub columns-only : IsOnlyColumnOrder
columns-only distinct by h = columns_by-is distinct by h.each h.sorted
