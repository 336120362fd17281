-- The sums by key are those of the distinct keys.
use Rattle.std.proofs.Common.{◌≡◌, ℤ, pos, ◌+ℤ◌, ℕ, Bool, T, true, false, ◌&&◌, cond, List, [], ◌∷◌, map, Some, refl, sym, ap, ◌∙◌, unwrap_or, true≢false, slice_get}
use Rattle.std.specs.Option.{option_and_then}
use Rattle.std.specs.List.{filter_map, cons_option}
use Rattle.std.specs.declared.cmp.Ordering.{Ordering}
use Rattle.std.specs.declared.cmp.Ordering.TheVariants.{Less, Equal, Greater}
use Rattle.std.specs.Ordering.{is_eq, is_lt, ordering_reverse, match_ordering}
use Rattle.std.specs.Cmp.{tied_itself}
use Rattle.std.specs.FinMap.{find, put, is_sorted}
use Rattle.std.specs.FinMap.Entries.{by_order, below_all, is_sorted-put, find-put}
use Rattle.std.specs.BTreeMap.{insert_entry, is_at}
use Rattle.std.specs.Map.{lookup}
use Rattle.ut_value.specs.declared.value.Value.{Value}
use Rattle.ut_value.specs.KeyOrder.{value_cmp}
use Rattle.ut_plain.specs.declared.table.Stored.{Stored}
use Rattle.ut_plain.specs.Tables.{column_of}
use Rattle.ut_plain.specs.Condition.{value_in}
use Rattle.ut_plain.specs.Query.{number_of, total, with_key, distinct, same_value, with_value, column_values, groups}
use Rattle.ut_scan.specs.declared.place.Found.{Found}
use Rattle.ut_exact.specs.Scan.{stored_in}
use Rattle.ut_staged.specs.Staged.{Staged, row_at}
use Rattle.ut_table.specs.Finds.{rows_at}
use Rattle.ut_ops.specs.ValueOrder.{value_cmp_total, equal_values}
use Rattle.ut_ops.specs.Fit.{Fit, cell}
use Rattle.ut_ops.specs.Tally.{sum_of, added, tallies, entry_of, as_group}
use Rattle.ut_ops.proofs.ColumnLemmas.{fit_first, fit_rest, stored_cell, values_some, column_below}

-- ---- a map of std, as this one

pub insert-put : (es : List (Value × ℤ)) (k : Value) (v : ℤ) → insert_entry value_cmp es k v ≡ put value_cmp k v es
insert-put [] k v = refl
insert-put (e ∷ es) k v = by (value_cmp k e.0) (insert-put es k v)
  where
    by : (o : Ordering) → insert_entry value_cmp es k v ≡ put value_cmp k v es
        → match_ordering o ((k, v) ∷ e ∷ es) ((e.0, v) ∷ es) (e ∷ insert_entry value_cmp es k v) ≡ by_order o ((k, v) ∷ e ∷ es) ((e.0, v) ∷ es) (e ∷ put value_cmp k v es)
    by Less more = refl
    by Equal more = refl
    by Greater more = ap (λ xs. e ∷ xs) more

pub lookup-find : (es : List (Value × ℤ)) (k : Value) → lookup (is_at (value_cmp k)) es ≡ find value_cmp k es
lookup-find [] k = refl
lookup-find (e ∷ es) k = ap (λ o. cond (is_eq (value_cmp k e.0)) (Some e.1) o) (lookup-find es k)

-- ---- the sum of one key

-- the numbers of a key together
abbrev tot : Value → List (Value × ℤ) → ℤ
tot k [] = pos 0
tot k (x ∷ xs) = cond (is_eq (value_cmp x.0 k)) (x.1 +ℤ tot k xs) (tot k xs)

pub equal : (o : Ordering) → is_eq o ≡ true → o ≡ Equal
equal Less h = absurd (true≢false (sym h))
equal Equal h = refl
equal Greater h = absurd (true≢false (sym h))

turn_level : (o : Ordering) → is_eq (ordering_reverse o) ≡ is_eq o
turn_level Less = refl
turn_level Equal = refl
turn_level Greater = refl

-- it is all one in which order two values are compared
pub eq_turned : (v w : Value) → is_eq (value_cmp v w) ≡ is_eq (value_cmp w v)
eq_turned v w = ap is_eq (value_cmp_total.antisymm v w) ∙ turn_level (value_cmp w v)

pub sum_of-added : (q k : Value) (n : ℤ) (es : List (Value × ℤ)) → sum_of q (added k n es) ≡ cond (is_eq (value_cmp q k)) (n +ℤ sum_of k es) (sum_of q es)
sum_of-added q k n es = ap (λ o. unwrap_or o (pos 0)) (find-put value_cmp value_cmp_total q k (n +ℤ sum_of k es) es) ∙ by (is_eq (value_cmp q k))
  where
    by : (b : Bool) → unwrap_or (cond b (Some (n +ℤ sum_of k es)) (find value_cmp q es)) (pos 0) ≡ cond b (n +ℤ sum_of k es) (sum_of q es)
    by true = refl
    by false = refl

sum_is : (q : Value) (xs : List (Value × ℤ)) → sum_of q (tallies xs) ≡ tot q xs
sum_is q [] = refl
sum_is q (x ∷ xs) = sum_of-added q x.0 x.1 (tallies xs) ∙ by (is_eq (value_cmp q x.0)) refl (sum_is x.0 xs) (sum_is q xs)
  where
    by : (b : Bool) → is_eq (value_cmp q x.0) ≡ b → sum_of x.0 (tallies xs) ≡ tot x.0 xs → sum_of q (tallies xs) ≡ tot q xs
        → cond b (x.1 +ℤ sum_of x.0 (tallies xs)) (sum_of q (tallies xs)) ≡ cond (is_eq (value_cmp x.0 q)) (x.1 +ℤ tot q xs) (tot q xs)
    by true e here other =
        let same : x.0 ≡ q = sym (equal_values q x.0 (equal (value_cmp q x.0) e)) in
        ap (λ m. x.1 +ℤ m) (here ∙ ap (λ v. tot v xs) same) ∙ sym (ap (λ b. cond b (x.1 +ℤ tot q xs) (tot q xs)) (eq_turned x.0 q ∙ e))
    by false e here other = other ∙ sym (ap (λ b. cond b (x.1 +ℤ tot q xs) (tot q xs)) (eq_turned x.0 q ∙ e))

-- ---- the keys

keys-put : (k : Value) (v : ℤ) (es : List (Value × ℤ)) → map (λ (e : Value × ℤ). e.0) (put value_cmp k v es) ≡ with_key k (map (λ (e : Value × ℤ). e.0) es)
keys-put k v [] = refl
keys-put k v (e ∷ es) = by (value_cmp k e.0) (keys-put k v es)
  where
    by : (o : Ordering) → map (λ (e : Value × ℤ). e.0) (put value_cmp k v es) ≡ with_key k (map (λ (e : Value × ℤ). e.0) es)
        → map (λ (e : Value × ℤ). e.0) (by_order o ((k, v) ∷ e ∷ es) ((e.0, v) ∷ es) (e ∷ put value_cmp k v es))
        ≡ by_order o (k ∷ e.0 ∷ map (λ (e : Value × ℤ). e.0) es) (e.0 ∷ map (λ (e : Value × ℤ). e.0) es) (e.0 ∷ with_key k (map (λ (e : Value × ℤ). e.0) es))
    by Less more = refl
    by Equal more = refl
    by Greater more = ap (λ ks. e.0 ∷ ks) more

keys_are : (xs : List (Value × ℤ)) → map (λ (e : Value × ℤ). e.0) (tallies xs) ≡ distinct (map (λ (x : Value × ℤ). x.0) xs)
keys_are [] = refl
keys_are (x ∷ xs) = keys-put x.0 (x.1 +ℤ sum_of x.0 (tallies xs)) (tallies xs) ∙ ap (with_key x.0) (keys_are xs)

pub sorted_tallies : (xs : List (Value × ℤ)) → T (is_sorted value_cmp (tallies xs))
sorted_tallies [] = tt
sorted_tallies (x ∷ xs) = is_sorted-put value_cmp value_cmp_total x.0 (x.1 +ℤ sum_of x.0 (tallies xs)) (tallies xs) (sorted_tallies xs)

-- ---- each key has its sum

first : (a b : Bool) → T (a && b) → T a
first true b h = tt
first false b h = h

second : (a b : Bool) → T (a && b) → T b
second true b h = h
second false b h = absurd h

above : (v w : Value) → T (is_lt (value_cmp v w)) → is_eq (value_cmp w v) ≡ false
above v w h = ap is_eq (value_cmp_total.antisymm w v) ∙ by (value_cmp v w) h
  where
    by : (o : Ordering) → T (is_lt o) → is_eq (ordering_reverse o) ≡ false
    by Less h = refl
    by Equal h = absurd h
    by Greater h = refl

-- what stands before greater keys is none of theirs
past : (e : Value × ℤ) (es fs : List (Value × ℤ)) → T (below_all value_cmp e.0 fs) → map {B = Value × ℤ} (λ (f : Value × ℤ). (f.0, sum_of f.0 (e ∷ es))) fs ≡ map {B = Value × ℤ} (λ (f : Value × ℤ). (f.0, sum_of f.0 es)) fs
past e es [] h = refl
past e es (f ∷ fs) h =
    let other = above e.0 f.0 (first (is_lt (value_cmp e.0 f.0)) (below_all value_cmp e.0 fs) h) in
    λ i. (f.0, unwrap_or (cond (other i) (Some e.1) (find value_cmp f.0 es)) (pos 0)) ∷ past e es fs (second (is_lt (value_cmp e.0 f.0)) (below_all value_cmp e.0 fs) h) i

each_has : (es : List (Value × ℤ)) → T (is_sorted value_cmp es) → es ≡ map {B = Value × ℤ} (λ (e : Value × ℤ). (e.0, sum_of e.0 es)) es
each_has [] h = refl
each_has (e ∷ es) h =
    let itself : is_eq (value_cmp e.0 e.0) ≡ true = ap is_eq (tied_itself value_cmp_total e.0) in
    let rest = each_has es (second (below_all value_cmp e.0 es) (is_sorted value_cmp es) h) ∙ sym (past e es es (first (below_all value_cmp e.0 es) (is_sorted value_cmp es) h)) in
    λ i. (e.0, unwrap_or (cond (sym itself i) (Some e.1) (find value_cmp e.0 es)) (pos 0)) ∷ rest i

-- through the keys alone
by_keys : {X Y : Type 0} (f : Value → Y) (es : List (Value × X)) → map (λ (e : Value × X). f e.0) es ≡ map f (map (λ (e : Value × X). e.0) es)
by_keys f [] = refl
by_keys f (e ∷ es) = ap (λ ys. f e.0 ∷ ys) (by_keys f es)

map_twice : {X Y Z : Type 0} (g : Y → Z) (f : X → Y) (xs : List X) → map g (map f xs) ≡ map (λ x. g (f x)) xs
map_twice g f [] = refl
map_twice g f (x ∷ xs) = ap (λ ys. g (f x) ∷ ys) (map_twice g f xs)

pub tallies_are : (xs : List (Value × ℤ)) → map as_group (tallies xs) ≡ map (λ k. as_group (k, tot k xs)) (distinct (map (λ (x : Value × ℤ). x.0) xs))
tallies_are xs =
    ap (map as_group) (each_has (tallies xs) (sorted_tallies xs))
    ∙ map_twice as_group (λ (e : Value × ℤ). (e.0, sum_of e.0 (tallies xs))) (tallies xs)
    ∙ by_keys (λ k. as_group (k, sum_of k (tallies xs))) (tallies xs)
    ∙ (λ i. map (λ k. as_group (k, sum_is k xs i)) (keys_are xs i))

-- ---- the sums of rows that were found

with_total : (n : ℕ) (s : Staged) (key sum : List ℕ) (kc sc : ℕ) (k : Value) (fs : List Found) → Fit s fs → column_of s.columns key ≡ Some kc → column_of s.columns sum ≡ Some sc
    → total (column_values s.columns sum (with_value s.columns key k (rows_at n s fs))) ≡ tot k (map (entry_of s kc sc) fs)
with_total n s key sum kc sc k [] fit at bt = refl
with_total n s key sum kc sc k (f ∷ fs) fit at bt =
    (λ i. total (filter_map (λ (e : ℕ × Stored). value_in s.columns e.1.values sum) (cond (same_value (key_is i) (Some k)) ((f.id, stored_in n (row_at s f.place)) ∷ with_value s.columns key k (rows_at n s fs)) (with_value s.columns key k (rows_at n s fs)))))
    ∙ by (is_eq (value_cmp (cell s kc f) k)) (with_total n s key sum kc sc k fs (fit_rest s f fs fit) at bt)
  where
    key_is : value_in s.columns (stored_in n (row_at s f.place)).values key ≡ Some (cell s kc f)
    key_is = ap (option_and_then (slice_get (stored_in n (row_at s f.place)).values)) at ∙ stored_cell n s kc f (fit_first s f fs fit) (column_below s.columns key kc at)

    sum_is_at : value_in s.columns (stored_in n (row_at s f.place)).values sum ≡ Some (cell s sc f)
    sum_is_at = ap (option_and_then (slice_get (stored_in n (row_at s f.place)).values)) bt ∙ stored_cell n s sc f (fit_first s f fs fit) (column_below s.columns sum sc bt)

    by : (b : Bool) → total (column_values s.columns sum (with_value s.columns key k (rows_at n s fs))) ≡ tot k (map (entry_of s kc sc) fs)
        → total (column_values s.columns sum (cond b ((f.id, stored_in n (row_at s f.place)) ∷ with_value s.columns key k (rows_at n s fs)) (with_value s.columns key k (rows_at n s fs))))
        ≡ cond b (number_of (cell s sc f) +ℤ tot k (map (entry_of s kc sc) fs)) (tot k (map (entry_of s kc sc) fs))
    by true more =
        ap (λ o. total (cons_option o (column_values s.columns sum (with_value s.columns key k (rows_at n s fs))))) sum_is_at
        ∙ ap (λ m. number_of (cell s sc f) +ℤ m) more
    by false more = more

keys_of_rows : (s : Staged) (kc sc : ℕ) (fs : List Found) → map (λ (x : Value × ℤ). x.0) (map (entry_of s kc sc) fs) ≡ map (cell s kc) fs
keys_of_rows s kc sc [] = refl
keys_of_rows s kc sc (f ∷ fs) = ap (λ vs. cell s kc f ∷ vs) (keys_of_rows s kc sc fs)

pub groups_are : (n : ℕ) (s : Staged) (key sum : List ℕ) (kc sc : ℕ) (fs : List Found) → Fit s fs → column_of s.columns key ≡ Some kc → column_of s.columns sum ≡ Some sc
    → map as_group (tallies (map (entry_of s kc sc) fs)) ≡ groups s.columns key sum (rows_at n s fs)
groups_are n s key sum kc sc fs fit at bt = tallies_are (map (entry_of s kc sc) fs)
    ∙ (λ i. map (λ k. as_group (k, sym (with_total n s key sum kc sc k fs fit at bt) i)) (distinct ((keys_of_rows s kc sc fs ∙ sym (values_some n s key kc fs fit at)) i)))
