-- Lists that grow, and lists that are sorted by what their elements stand for.
use Rattle.std.proofs.Common.{◌≡◌, ℕ, zero, suc, Bor, ◌+◌, ◌<◌, false, List, [], ◌∷◌, ◌++◌, length, map, get_or, All, refl, sym, ap, ◌∙◌, subst, arith}
use Rattle.std.specs.Global.{Vec}
use Rattle.std.specs.List.{range_with_len, IsDistinct}
use Rattle.std.specs.List.Sorted.{IsPermutation, IsSorted}
use Rattle.std.specs.Cmp.{IsTotalOrder, ranks}
use Rattle.std.specs.Ordering.{nat_cmp, is_lt, is_eq, eq_by_cmp, ordering_then, MatchOrdering}
use Rattle.std.specs.declared.cmp.Ordering.{Ordering}
use Rattle.std.specs.declared.cmp.Ordering.TheVariants.{Less, Equal, Greater}
use Rattle.std.proofs.lemmas.Cmp.{nat_cmp_total, on_total, then_total}
use Rattle.std.proofs.lemmas.List.{map-append, length-map, get_or-map}
use Rattle.std.proofs.lemmas.List.FromFn.{length-range_with_len, get_or-range_with_len, map-range_with_len_more}
use Rattle.std.proofs.lemmas.List.Sorted.{IsPermutation-map, All-permutation}
use Rattle.std.proofs.lemmas.Map.Keys.{IsDistinct-from_apart}
use Rattle.ut_resort.specs.declared.columns.Counted.{Counted}
use Rattle.ut_resort.specs.Resorted.{codes_of, column_cmp, columns_by}
use Rattle.ut_resort.specs.Sorting.{counted_cmp, lists_by, lists_now}
use Rattle.ut_resort.proofs.OrderLemmas.{in_order-all, only_order}

-- ---- places of a list that grows

map-same : (xs : List ℕ) → map (λ x. x) xs ≡ xs
map-same [] = refl
map-same (x ∷ xs) = ap (λ l. x ∷ l) (map-same xs)

range-more : (n : ℕ) → range_with_len 0 (n + 1) ≡ range_with_len 0 n ++ n ∷ []
range-more n = sym (map-same (range_with_len 0 (n + 1))) ∙ map-range_with_len_more (λ x. x) 0 n n (omega arith) ∙ ap (λ l. l ++ n ∷ []) (map-same (range_with_len 0 n))

pub places-push : {X : Type 0} (place : X → ℕ) (xs : List X) (x : X) → map place xs ≡ range_with_len 0 (place x) → map place (xs ++ x ∷ []) ≡ range_with_len 0 (place x + 1)
places-push place xs x h = map-append place xs (x ∷ []) ∙ ap (λ l. l ++ place x ∷ []) h ∙ sym (range-more (place x))

-- the places of elements in another order
pub places-moved : {X : Type 0} (place : X → ℕ) (old new : List X) (n : ℕ) → map place old ≡ range_with_len 0 n → IsPermutation old new → IsPermutation (range_with_len 0 n) (map place new)
places-moved place old new n places moved = subst (λ l. IsPermutation l (map place new)) places (IsPermutation-map place old new moved)

-- ---- sorted by what elements stand for

some_of : {X : Type 0} (xs : List X) → 0 < length xs → X
some_of [] h = absurd (omega (arith, h))
some_of (x ∷ xs) h = x

pub sorted-map : {X Y : Type 0} (S : X → X → Ordering) (R : Y → Y → Ordering) (f : X → Y) (good : X → Type 0) (xs : List X) → All good xs → ((p q : X) → good p → good q → S p q ≡ R (f p) (f q)) → IsSorted S xs → IsSorted R (map f xs)
sorted-map S R f good xs all same sorted k d le lt =
    let n : length (map f xs) ≡ length xs = length-map xs f in
    let few : k + 1 < length xs = omega (arith, lt, n) in
    let e = some_of xs (omega (arith, few)) in
    (λ i. is_lt (R (get_or-map f xs (k + 1) e d few i) (get_or-map f xs k e d (omega (arith, few)) i)))
    ∙ ap is_lt (sym (same (get_or xs (k + 1) e) (get_or xs k e) (all (k + 1) e few) (all k e (omega (arith, few))))) ∙ sorted k e le few

-- ---- the order of the columns

pub column_cmp-total : (distinct : List ℕ) → IsTotalOrder (column_cmp distinct)
column_cmp-total distinct = then_total (on_total (λ (c : ℕ). get_or distinct c 0) nat_cmp_total) nat_cmp_total

pub counted_cmp-total : IsTotalOrder counted_cmp
counted_cmp-total = then_total (on_total (λ (c : Counted). c.keys) nat_cmp_total) (on_total (λ (c : Counted). c.column) nat_cmp_total)

not_tied : (o : Ordering) (a b : ℕ) → a < b → is_eq (ordering_then o (nat_cmp a b)) ≡ false
not_tied Less a b lt = refl
not_tied Greater a b lt = refl
not_tied Equal a b lt = by (nat_cmp a b) (ranks a b)
  where
    by : (o : Ordering) → MatchOrdering o (a < b) (a ≡ b) (b < a) → is_eq o ≡ false
    by Less h = refl
    by Equal h = absurd (omega (arith, h, lt))
    by Greater h = refl

columns-differ : (distinct : List ℕ) (n : ℕ) → IsDistinct (eq_by_cmp (column_cmp distinct)) (range_with_len 0 n)
columns-differ distinct n = IsDistinct-from_apart (eq_by_cmp (column_cmp distinct)) (range_with_len 0 n) (λ i j d lt small.
    let long = length-range_with_len 0 n in
    let first = get_or-range_with_len 0 n i d (omega (arith, lt, small, long)) in
    let second = get_or-range_with_len 0 n j d (omega (arith, small, long)) in
    let x = get_or (range_with_len 0 n) i d in
    let y = get_or (range_with_len 0 n) j d in
    not_tied (nat_cmp (get_or distinct x 0) (get_or distinct y 0)) x y (omega (arith, first, second, lt)))

-- all columns, sorted, are the columns in their order
pub columns_by-is : (distinct by : List ℕ) → IsPermutation (range_with_len 0 (length distinct)) by → IsSorted (column_cmp distinct) by → by ≡ columns_by distinct
columns_by-is distinct by moved sorted = only_order (column_cmp-total distinct) (range_with_len 0 (length distinct)) by (columns-differ distinct (length distinct)) moved sorted

pub columns-within : (n : ℕ) (by : List ℕ) → IsPermutation (range_with_len 0 n) by → All (λ column. column < n) by
columns-within n by moved = All-permutation (λ column. column < n) (range_with_len 0 n) by moved (λ k d lt.
    let few = length-range_with_len 0 n in
    let at = get_or-range_with_len 0 n k d (omega (arith, lt, few)) in
    omega (arith, at, lt, few))

-- ---- how long the lists are

pub columns_by-within : (distinct : List ℕ) → All (λ column. column < length distinct) (columns_by distinct)
columns_by-within distinct = in_order-all (column_cmp-total distinct) (λ column. column < length distinct) (range_with_len 0 (length distinct)) (λ k d lt.
    let few = length-range_with_len 0 (length distinct) in
    let at = get_or-range_with_len 0 (length distinct) k d (omega (arith, lt, few)) in
    omega (arith, at, lt, few))

pub lengths-by : (by : List ℕ) (columns : List (List ℕ)) (ids : List ℕ) → All (λ column. column < length columns) by → All (λ codes. length codes ≡ length ids) columns → All (λ codes. length codes ≡ length ids) (lists_by by columns ids)
lengths-by [] columns ids within sizes zero d lt = refl
lengths-by [] columns ids within sizes (suc k) d lt = absurd (omega (arith, lt))
lengths-by (column ∷ by) columns ids within sizes zero d lt = sizes column [] (within 0 column (omega arith))
lengths-by (column ∷ by) columns ids within sizes (suc k) d lt = lengths-by by columns ids (λ j e low. within (suc j) e (omega (arith, low))) sizes k d (omega (arith, lt))

pub lengths-codes : (columns : List (Vec ℕ)) (n : ℕ) → All (λ column. length column.items ≡ n) columns → All (λ codes. length codes ≡ n) (codes_of columns)
lengths-codes columns n sizes k d lt =
    let same : length (codes_of columns) ≡ length columns = length-map columns (λ column. column.items) in
    let e = some_of columns (omega (arith, lt, same)) in
    ap length (get_or-map (λ column. column.items) columns k e d (omega (arith, lt, same))) ∙ sizes k e (omega (arith, lt, same))

pub lengths-lent : (lists : List (Bor (List ℕ))) (n : ℕ) → All (λ codes. length codes ≡ n) (lists_now lists) → All (λ l. length l.now ≡ n) lists
lengths-lent lists n all k d lt =
    let same : length (lists_now lists) ≡ length lists = length-map lists (λ l. l.now) in
    ap length (sym (get_or-map (λ l. l.now) lists k d d.now lt)) ∙ all k d.now (omega (arith, lt, same))
