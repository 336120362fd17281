-- Rows sorted by their codes stand in re-sorted order.
use Rattle.std.proofs.Common.{◌≡◌, ◌≢◌, ℕ, ◌<◌, Bool, true, false, cond, List, [], ◌∷◌, length, get_or, All, refl, sym, ap, ◌∙◌, arith}
use Rattle.std.specs.List.{range_with_len}
use Rattle.std.specs.List.Sorted.{IsPermutation, IsSorted}
use Rattle.std.specs.Cmp.{IsTotalOrder}
use Rattle.std.specs.Ordering.{nat_cmp, is_lt, is_eq, eq_by_cmp, ordering_then, MatchOrdering}
use Rattle.std.specs.declared.cmp.Ordering.{Ordering}
use Rattle.std.specs.declared.cmp.Ordering.TheVariants.{Less, Equal, Greater}
use Rattle.std.proofs.lemmas.Cmp.{nat_cmp_total, nat_list_cmp_total, on_total, then_total, ranked}
use Rattle.std.proofs.lemmas.List.{get_or_default}
use Rattle.std.proofs.lemmas.List.Elements.{All-head, All-tail, All-cons, All-nil}
use Rattle.std.proofs.lemmas.List.FromFn.{length-range_with_len, get_or-range_with_len}
use Rattle.std.proofs.lemmas.Map.Keys.{IsDistinct-from_apart}
use Rattle.ut_key.specs.Keys.{key_cmp}
use Rattle.ut_l2.specs.KeyRows.{KeyRow, key_at, no_row}
use Rattle.ut_plain.specs.Merges.{in_order, put}
use Rattle.ut_resort.specs.Resorted.{column_cmp, columns_by, row_key_cmp, in_order as order_in, put as put_in}
use Rattle.ut_resort.proofs.OrderLemmas.{only_order}
use Rattle.ut_resort.proofs.PairLemmas.{then-test}
use Rattle.ut_merge.specs.Resorting.{column_order, comes_first, distinct_in, resorted, row_cmp, width_of}
use Rattle.ut_merge.specs.Jobs.{HaveOwnIds}

-- ---- lists in order

put-same : {X : Type 0} (before : X → X → Bool) (x : X) (xs : List X) → put_in before x xs ≡ put before x xs
put-same before x [] = refl
put-same before x (y ∷ ys) = λ i. cond (before y x) (y ∷ put-same before x ys i) (x ∷ y ∷ ys)

order-same : {X : Type 0} (before : X → X → Bool) (xs : List X) → order_in before xs ≡ in_order before xs
order-same before [] = refl
order-same before (x ∷ xs) = put-same before x (order_in before xs) ∙ ap (put before x) (order-same before xs)

module _ {X : Type 0} (P : X → Type 0) (f g : X → X → Bool) (agree : (a b : X) → P a → P b → f a b ≡ g a b) where
  put-good : (x : X) (xs : List X) → P x → All P xs → All P (put f x xs)
  put-good x [] h all = All-cons P x [] h all
  put-good x (y ∷ ys) h all = by (f y x) (put-good x ys h (All-tail P y ys all))
    where
      by : (b : Bool) → All P (put f x ys) → All P (cond b (y ∷ put f x ys) (x ∷ y ∷ ys))
      by true rest = All-cons P y (put f x ys) (All-head P y ys all) rest
      by false rest = All-cons P x (y ∷ ys) h all

  put-agree : (x : X) (xs : List X) → P x → All P xs → put f x xs ≡ put g x xs
  put-agree x [] h all = refl
  put-agree x (y ∷ ys) h all = λ i. cond (agree y x (All-head P y ys all) h i) (y ∷ put-agree x ys h (All-tail P y ys all) i) (x ∷ y ∷ ys)

  order-good : (xs : List X) → All P xs → All P (in_order f xs)
  order-good [] all = All-nil P
  order-good (x ∷ xs) all = put-good x (in_order f xs) (All-head P x xs all) (order-good xs (All-tail P x xs all))

  order-agree : (xs : List X) → All P xs → in_order f xs ≡ in_order g xs
  order-agree [] all = refl
  order-agree (x ∷ xs) all =
      put-agree x (in_order f xs) (All-head P x xs all) (order-good xs (All-tail P x xs all))
      ∙ ap (put g x) (order-agree xs (All-tail P x xs all))

-- ---- the order of the columns

-- counts of different keys order the columns as the rows' keys do
pub columns-same : (rows : List KeyRow) (counts : List ℕ) → length counts ≡ width_of rows → ((c : ℕ) → c < length counts → get_or counts c 0 ≡ distinct_in rows c) → columns_by counts ≡ column_order rows
columns-same rows counts size same =
    order-same (λ a b. is_lt (column_cmp counts a b)) (range_with_len 0 (length counts))
    ∙ order-agree (λ c. c < length counts) (λ a b. is_lt (column_cmp counts a b)) (comes_first rows) agree (range_with_len 0 (length counts)) within
    ∙ ap (λ n. in_order (comes_first rows) (range_with_len 0 n)) size
  where
    agree : (a b : ℕ) → a < length counts → b < length counts → is_lt (column_cmp counts a b) ≡ comes_first rows a b
    agree a b lt_a lt_b =
        (λ i. is_lt (ordering_then (nat_cmp (same a lt_a i) (same b lt_b i)) (nat_cmp a b)))
        ∙ then-test (distinct_in rows a) (distinct_in rows b) a b

    within : All (λ c. c < length counts) (range_with_len 0 (length counts))
    within k d lt =
        let n = length-range_with_len 0 (length counts) in
        let e = get_or-range_with_len 0 (length counts) k d (omega (arith, lt, n)) in
        omega (arith, e, lt, n)

-- ---- rows

pub row_cmp-total : (columns : List ℕ) → IsTotalOrder (row_cmp columns)
row_cmp-total [] = on_total (λ (r : KeyRow). r.id) nat_cmp_total
row_cmp-total (column ∷ columns) = then_total (on_total (key_at column) nat_list_cmp_total) (row_cmp-total columns)

told_apart : (columns : List ℕ) (a b : KeyRow) → a.id ≢ b.id → eq_by_cmp (row_cmp columns) a b ≡ false
told_apart [] a b other = by (nat_cmp a.id b.id) (ranked a.id b.id (nat_cmp a.id b.id) refl)
  where
    by : (o : Ordering) → MatchOrdering o (a.id < b.id) (a.id ≡ b.id) (b.id < a.id) → is_eq o ≡ false
    by Less h = refl
    by Equal h = absurd (other h)
    by Greater h = refl
told_apart (column ∷ columns) a b other = behind (key_cmp (key_at column a) (key_at column b)) (row_cmp columns a b) (told_apart columns a b other)
  where
    behind : (o p : Ordering) → is_eq p ≡ false → is_eq (ordering_then o p) ≡ false
    behind Less p h = refl
    behind Equal p h = h
    behind Greater p h = refl

-- whatever puts rows of different ids in that order gives the re-sorted rows
pub resorted-only : (rows moved : List KeyRow) → HaveOwnIds rows → IsPermutation rows moved → IsSorted (row_cmp (column_order rows)) moved → moved ≡ resorted rows
resorted-only rows moved own there sorted =
    only_order (row_cmp-total (column_order rows)) rows moved
    (IsDistinct-from_apart (eq_by_cmp (row_cmp (column_order rows))) rows (λ i j d lt small.
    told_apart (column_order rows) (get_or rows i d) (get_or rows j d) (λ e. own i j lt small (at i d (omega (arith, lt, small)) ∙ e ∙ sym (at j d small)))))
    there sorted
    ∙ order-same (λ a b. is_lt (row_cmp (column_order rows) a b)) rows
  where
    at : (k : ℕ) (d : KeyRow) → k < length rows → (get_or rows k no_row).id ≡ (get_or rows k d).id
    at k d lt = ap (λ (r : KeyRow). r.id) (get_or_default rows k no_row d lt)

-- rows at places are compared by their keys and ids
pub row_key_cmp-rows : (by : List ℕ) (rows : List KeyRow) (ids : List ℕ) (a b : ℕ) → get_or ids a 0 ≡ (get_or rows a no_row).id → get_or ids b 0 ≡ (get_or rows b no_row).id
    → row_key_cmp by (λ column place. key_at column (get_or rows place no_row)) ids a b ≡ row_cmp by (get_or rows a no_row) (get_or rows b no_row)
row_key_cmp-rows [] rows ids a b ea eb = λ i. nat_cmp (ea i) (eb i)
row_key_cmp-rows (column ∷ by) rows ids a b ea eb =
    ap (ordering_then (key_cmp (key_at column (get_or rows a no_row)) (key_at column (get_or rows b no_row)))) (row_key_cmp-rows by rows ids a b ea eb)
