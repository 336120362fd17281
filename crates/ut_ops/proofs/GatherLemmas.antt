-- Sums in any order, and united in steps, are the same.
use Rattle.std.proofs.Common.{ℕ, zero, suc, ◌+◌, ◌*◌, ◌<◌, ◌≤◌, ◌^◌, ◌≡◌, Bool, T, true, false, cond, List, [], ◌∷◌, ◌++◌, length, map, get_or, take, Option, Some, unwrap_or, refl, sym, ap, ◌∙◌, subst, arith, All, ℤ, pos, ◌+ℤ◌, ◌≤ℤ◌, neg_ℤ, negsuc, to_z, of_z}
use Rattle.std.specs.Prelude.{slice_get, slice_set, FitsSigned}
use Rattle.std.specs.Ordering.{is_eq}
use Rattle.std.specs.Cmp.{tied_itself}
use Rattle.std.proofs.lemmas.List.{append_assoc, append-nil, length-append, map-append, take_more}
use Rattle.std.proofs.lemmas.List.Elements.{All-nil, All-cons, All-head, All-tail, All-push, All-weaker}
use Rattle.std.specs.FinMap.{find, is_sorted, entries, from_sorted, same_map, entries-from_sorted, get-from_sorted}
use Rattle.std.specs.FinMap.Entries.{find-put, is_sorted-put}
use Rattle.std.specs.Int.{w64, w128}
use Rattle.std.proofs.lemmas.Int.{ints, to_z-of_z}
use Rattle.ut_value.specs.declared.value.Value.{Value}
use Rattle.ut_value.specs.KeyOrder.{value_cmp}
use Rattle.ut_ops.specs.ValueOrder.{value_cmp_total, equal_values}
use Rattle.ut_value.specs.declared.value.Value.TheVariants.{Int}
use Rattle.ut_plain.specs.Query.{number_of}
use Rattle.ut_scan.specs.declared.place.Found.{Found}
use Rattle.ut_staged.specs.Staged.{Staged}
use Rattle.ut_ops.specs.Fit.{cell}
use Rattle.ut_ops.specs.Tally.{sum_of, added, tallies, entry_of}
use Rattle.ut_plain.specs.declared.reply.Group as group
use Rattle.ut_ops.specs.Gathered.{added_all, entry_in, key_in, more_at, IsWithin, AreFew, Adds}
use Rattle.ut_ops.proofs.TallyLemmas.{equal, sum_of-added, sorted_tallies}

-- entries that find the same are the same
same_entries : (es fs : List (Value × ℤ)) → T (is_sorted value_cmp es) → T (is_sorted value_cmp fs) → ((q : Value) → find value_cmp q es ≡ find value_cmp q fs) → es ≡ fs
same_entries es fs h g same =
    sym (entries-from_sorted value_cmp es h)
    ∙ ap entries (same_map value_cmp_total equal_values (from_sorted es) (from_sorted fs) (λ q. get-from_sorted value_cmp es q h ∙ same q ∙ sym (get-from_sorted value_cmp fs q g)))
    ∙ entries-from_sorted value_cmp fs g

abbrev alike : Value → Value → Bool
alike v w = is_eq (value_cmp v w)

itself : (v : Value) → alike v v ≡ true
itself v = ap is_eq (tied_itself value_cmp_total v)

find-added : (q k : Value) (n : ℤ) (es : List (Value × ℤ)) → find value_cmp q (added k n es) ≡ cond (alike q k) (Some (n +ℤ sum_of k es)) (find value_cmp q es)
find-added q k n es = find-put value_cmp value_cmp_total q k (n +ℤ sum_of k es) es

sorted-added : (k : Value) (n : ℤ) (es : List (Value × ℤ)) → T (is_sorted value_cmp es) → T (is_sorted value_cmp (added k n es))
sorted-added k n es h = is_sorted-put value_cmp value_cmp_total k (n +ℤ sum_of k es) es h

-- the sum of another key stays
other : (k l : Value) (n : ℤ) (es : List (Value × ℤ)) → alike k l ≡ false → sum_of k (added l n es) ≡ sum_of k es
other k l n es e = sum_of-added k l n es ∙ ap (λ b. cond b (n +ℤ sum_of l es) (sum_of k es)) e

-- that of the key itself grows
own : (k : Value) (n : ℤ) (es : List (Value × ℤ)) → sum_of k (added k n es) ≡ n +ℤ sum_of k es
own k n es = sum_of-added k k n es ∙ ap (λ b. cond b (n +ℤ sum_of k es) (sum_of k es)) (itself k)

turned : (n m x : ℤ) → n +ℤ (m +ℤ x) ≡ m +ℤ (n +ℤ x)
turned n m x = omega (arith, ints)

together : (n m x : ℤ) → n +ℤ (m +ℤ x) ≡ (n +ℤ m) +ℤ x
together n m x = omega (arith, ints)

-- two numbers may be added in either order
pub added-turned : (k : Value) (n : ℤ) (l : Value) (m : ℤ) (es : List (Value × ℤ)) → T (is_sorted value_cmp es) → added k n (added l m es) ≡ added l m (added k n es)
added-turned k n l m es h =
    same_entries (added k n (added l m es)) (added l m (added k n es)) (sorted-added k n (added l m es) (sorted-added l m es h)) (sorted-added l m (added k n es) (sorted-added k n es h))
    (λ q. find-added q k n (added l m es) ∙ ap (λ o. cond (alike q k) (Some (n +ℤ sum_of k (added l m es))) o) (find-added q l m es)
    ∙ by q (alike q k) (alike q l) refl refl
    ∙ sym (find-added q l m (added k n es) ∙ ap (λ o. cond (alike q l) (Some (m +ℤ sum_of l (added k n es))) o) (find-added q k n es)))
  where
    both : (x y : Value) → x ≡ y → n +ℤ sum_of x (added y m es) ≡ m +ℤ sum_of y (added x n es)
    both x y e = subst (λ z. n +ℤ sum_of x (added z m es) ≡ m +ℤ sum_of z (added x n es)) e
        (ap (λ t. n +ℤ t) (own x m es) ∙ turned n m (sum_of x es) ∙ sym (ap (λ t. m +ℤ t) (own x n es)))

    by : (q : Value) (a b : Bool) → alike q k ≡ a → alike q l ≡ b
        → cond a (Some (n +ℤ sum_of k (added l m es))) (cond b (Some (m +ℤ sum_of l es)) (find value_cmp q es))
        ≡ cond b (Some (m +ℤ sum_of l (added k n es))) (cond a (Some (n +ℤ sum_of k es)) (find value_cmp q es))
    by q true true e g = ap Some (both k l (sym (equal_values q k (equal (value_cmp q k) e)) ∙ equal_values q l (equal (value_cmp q l) g)))
    by q true false e g = ap (λ t. Some (n +ℤ t)) (other k l m es (ap (λ v. alike v l) (sym (equal_values q k (equal (value_cmp q k) e))) ∙ g))
    by q false true e g = sym (ap (λ t. Some (m +ℤ t)) (other l k n es (ap (λ v. alike v k) (sym (equal_values q l (equal (value_cmp q l) g))) ∙ e)))
    by q false false e g = refl

-- and those of one key together
pub added-twice : (k : Value) (n m : ℤ) (es : List (Value × ℤ)) → T (is_sorted value_cmp es) → added k n (added k m es) ≡ added k (n +ℤ m) es
added-twice k n m es h =
    same_entries (added k n (added k m es)) (added k (n +ℤ m) es) (sorted-added k n (added k m es) (sorted-added k m es h)) (sorted-added k (n +ℤ m) es h)
    (λ q. find-added q k n (added k m es) ∙ ap (λ o. cond (alike q k) (Some (n +ℤ sum_of k (added k m es))) o) (find-added q k m es)
    ∙ by (alike q k) (find value_cmp q es) ∙ sym (find-added q k (n +ℤ m) es))
  where
    by : (a : Bool) (o : Option ℤ) → cond a (Some (n +ℤ sum_of k (added k m es))) (cond a (Some (m +ℤ sum_of k es)) o) ≡ cond a (Some ((n +ℤ m) +ℤ sum_of k es)) o
    by true o = ap Some (ap (λ t. n +ℤ t) (own k m es) ∙ together n m (sum_of k es))
    by false o = refl

-- ---- sums of a list

pub tallies-push : (xs : List (Value × ℤ)) (k : Value) (n : ℤ) → tallies (xs ++ (k, n) ∷ []) ≡ added k n (tallies xs)
tallies-push [] k n = refl
tallies-push (x ∷ xs) k n = ap (added x.0 x.1) (tallies-push xs k n) ∙ added-turned x.0 x.1 k n (tallies xs) (sorted_tallies xs)

pub sums-push : (gs : List group.Group) (k : Value) (n : ℤ) → tallies (map entry_in (gs ++ record { key = k; sum = n } ∷ [])) ≡ added k n (tallies (map entry_in gs))
sums-push gs k n = ap tallies (map-append entry_in gs (record { key = k; sum = n } ∷ [])) ∙ tallies-push (map entry_in gs) k n

-- those of the rows so far, and of the next
pub tallies-take : (s : Staged) (key sum : ℕ) (fs : List Found) (i : ℕ) (f : Found) (n m : ℤ) (old : List group.Group) (marks : List ℕ) (new : List group.Group) → i < length fs → cell s sum (get_or fs i f) ≡ Int n
    → Adds s key (cell s key (get_or fs i f)) m old marks new → tallies (map entry_in old) ≡ tallies (map (entry_of s key sum) (take i fs)) → m ≡ n → tallies (map entry_in new) ≡ tallies (map (entry_of s key sum) (take (i + 1) fs))
tallies-take s key sum fs i f n m old marks new lt is adds before same =
    let g = get_or fs i f in
    let number : number_of (cell s sum g) ≡ m = ap number_of is ∙ sym same in
    adds.told ∙ ap (added (cell s key g) m) before ∙ sym (tallies-push (map (entry_of s key sum) (take i fs)) (cell s key g) m)
    ∙ (λ j. tallies (map (entry_of s key sum) (take i fs) ++ (cell s key g, sym number j) ∷ []))
    ∙ ap tallies (sym (map-append (entry_of s key sum) (take i fs) (g ∷ []))) ∙ ap (λ xs. tallies (map (entry_of s key sum) xs)) (sym (take_more fs i f lt))

-- a number more in one of them
pub tallies-more : (gs : List group.Group) (i : ℕ) (k : Value) (n : ℤ) → slice_get (map key_in gs) i ≡ Some k → tallies (map entry_in (more_at i n gs)) ≡ added k n (tallies (map entry_in gs))
tallies-more [] i k n e = cc
tallies-more (g ∷ gs) zero k n e =
    let rest = tallies (map entry_in gs) in
    let is : g.key ≡ k = ap (λ o. unwrap_or o k) e in
    sym (added-twice g.key n g.sum rest (sorted_tallies (map entry_in gs))) ∙ ap (λ v. added v n (added g.key g.sum rest)) is
tallies-more (g ∷ gs) (suc i) k n e = ap (added g.key g.sum) (tallies-more gs i k n e) ∙ added-turned g.key g.sum k n (tallies (map entry_in gs)) (sorted_tallies (map entry_in gs))

-- one after the other
pub all-added : (ps xs : List (Value × ℤ)) → added_all xs (tallies ps) ≡ tallies (ps ++ xs)
all-added ps [] = ap tallies (sym (append-nil ps))
all-added ps (x ∷ xs) = ap (added_all xs) (sym (tallies-push ps x.0 x.1)) ∙ all-added (ps ++ x ∷ []) xs ∙ ap tallies (append_assoc ps (x ∷ []) xs)

-- ---- how large they are

abbrev least : ℕ → ℤ
least n = neg_ℤ (pos (9223372036854775808 * n))

abbrev most : ℕ → ℤ
most n = pos (9223372036854775808 * n)

lower : (m n : ℕ) (x : ℤ) → m ≤ n → least m ≤ℤ x → least n ≤ℤ x
lower m n x le h = omega (arith, ints, le, h)

higher : (m n : ℕ) (x : ℤ) → m ≤ n → x ≤ℤ most m → x ≤ℤ most n
higher m n x le h = omega (arith, ints, le, h)

within-weaker : (m n : ℕ) (g : group.Group) → m ≤ n → IsWithin m g → IsWithin n g
within-weaker m n g le h = record { low = lower m n g.sum le h.low; high = higher m n g.sum le h.high }

pub few-weaker : (m n : ℕ) (gs : List group.Group) → m ≤ n → AreFew m gs → AreFew n gs
few-weaker m n gs le h = record { count = omega (arith, le, h.count); small = All-weaker (IsWithin m) (IsWithin n) (λ g. within-weaker m n g le) gs h.small }

-- a number of 64 bits
pub record IsNumber (x : ℤ) : Type 0 where
  pub low : neg_ℤ (pos 9223372036854775808) ≤ℤ x
  pub high : x ≤ℤ pos 9223372036854775807

pub is-number : (x : ℤ) → FitsSigned w64 x → IsNumber x
is-number (pos n) fits = let small : n < 2 ^ 63 = fits.sfits in record { low = omega (arith, ints); high = omega (arith, ints, small) }
is-number (negsuc n) fits = let small : n < 2 ^ 63 = fits.sfits in record { low = omega (arith, ints, small); high = omega (arith, ints) }

one : (n : ℕ) (x : ℤ) → IsNumber x → (least (n + 1) ≤ℤ x) × (x ≤ℤ most (n + 1))
one n x h = let low = h.low in let high = h.high in (omega (arith, ints), omega (arith, ints))

pub few-push : (n : ℕ) (gs : List group.Group) (g : group.Group) → IsNumber g.sum → AreFew n gs → AreFew (n + 1) (gs ++ g ∷ [])
few-push n gs g x h =
    let wide = few-weaker n (n + 1) gs (omega arith) h in
    record { count = omega (arith, h.count, length-append gs (g ∷ [])); small = All-push (IsWithin (n + 1)) gs g wide.small (record { low = (one n g.sum x).0; high = (one n g.sum x).1 }) }

more : (n : ℕ) (x t : ℤ) → IsNumber x → least n ≤ℤ t → t ≤ℤ most n → (least (n + 1) ≤ℤ (x +ℤ t)) × ((x +ℤ t) ≤ℤ most (n + 1))
more n x t h a b = let low = h.low in let high = h.high in (omega (arith, ints, a, b), omega (arith, ints, a, b))

pub length-more : (i : ℕ) (x : ℤ) (gs : List group.Group) → length (more_at i x gs) ≡ length gs
length-more i x [] = refl
length-more zero x (g ∷ gs) = refl
length-more (suc i) x (g ∷ gs) = ap suc (length-more i x gs)

pub keys-more : (i : ℕ) (x : ℤ) (gs : List group.Group) → map key_in (more_at i x gs) ≡ map key_in gs
keys-more i x [] = refl
keys-more zero x (g ∷ gs) = refl
keys-more (suc i) x (g ∷ gs) = ap (λ ks. g.key ∷ ks) (keys-more i x gs)

-- the sums as a write leaves them
pub set-more : (gs : List group.Group) (i : ℕ) (g : group.Group) (x t : ℤ) → i < length gs → g ≡ get_or gs i g → t ≡ x +ℤ g.sum → slice_set gs i (record { key = g.key; sum = t }) ≡ more_at i x gs
set-more [] i g x t lt is e = absurd (omega arith)
set-more (y ∷ gs) zero g x t lt is e = λ j. record { key = (is j).key; sum = (e ∙ ap (λ (z : group.Group). x +ℤ z.sum) is) j } ∷ gs
set-more (y ∷ gs) (suc i) g x t lt is e = ap (λ zs. y ∷ zs) (set-more gs i g x t (omega (arith, lt)) is e)

-- one of few sums
pub within-at : (n i : ℕ) (g : group.Group) (gs : List group.Group) → AreFew n gs → i < length gs → g ≡ get_or gs i g → IsWithin n g
within-at n i g gs few lt is = subst (IsWithin n) (sym is) (few.small i g lt)

pub few-more : (n i : ℕ) (x : ℤ) (gs : List group.Group) → IsNumber x → AreFew n gs → AreFew (n + 1) (more_at i x gs)
few-more n i x gs h few = record { count = omega (arith, few.count, length-more i x gs); small = by i gs few.small }
  where
    by : (i : ℕ) (gs : List group.Group) → All (IsWithin n) gs → All (IsWithin (n + 1)) (more_at i x gs)
    by i [] all = All-nil (IsWithin (n + 1))
    by zero (g ∷ gs) all =
        let here = All-head (IsWithin n) g gs all in
        let grown = more n x g.sum h here.low here.high in
        All-cons (IsWithin (n + 1)) (record { key = g.key; sum = x +ℤ g.sum }) gs (record { low = grown.0; high = grown.1 }) (All-weaker (IsWithin n) (IsWithin (n + 1)) (λ y. within-weaker n (n + 1) y (omega arith)) gs (All-tail (IsWithin n) g gs all))
    by (suc i) (g ∷ gs) all = All-cons (IsWithin (n + 1)) g (more_at i x gs) (within-weaker n (n + 1) g (omega arith) (All-head (IsWithin n) g gs all)) (by i gs (All-tail (IsWithin n) g gs all))

-- n sums of 2 ^ 31 numbers each
pub record IsSmall (n : ℕ) (x : ℤ) : Type 0 where
  pub low : neg_ℤ (pos (19807040628566084398385987584 * n)) ≤ℤ x
  pub high : x ≤ℤ pos (19807040628566084398385987584 * n)

grows : (n : ℕ) (x t : ℤ) → IsSmall 1 x → IsSmall n t → IsSmall (n + 1) (x +ℤ t)
grows n x t a b = let la = a.low in let ha = a.high in let lb = b.low in let hb = b.high in record { low = omega (arith, ints); high = omega (arith, ints) }

stays : (n : ℕ) (t : ℤ) → IsSmall n t → IsSmall (n + 1) t
stays n t b = let lb = b.low in let hb = b.high in record { low = omega (arith, ints); high = omega (arith, ints) }

-- the sum of so few numbers is held as it is
pub sum-held : (g : group.Group) → IsWithin 2147483648 g → to_z w128 (of_z w128 g.sum) ≡ g.sum
sum-held g within =
    let low = within.low in
    let high = within.high in
    grind (arith, ints, to_z-of_z)

pub small-one : (g : group.Group) → IsWithin 2147483648 g → IsSmall 1 g.sum
small-one g w = let low = w.low in let high = w.high in record { low = omega (arith, ints); high = omega (arith, ints) }

pub small-none : (q : Value) → IsSmall 0 (sum_of q [])
small-none q = record { low = omega (arith, ints); high = omega (arith, ints) }

pub small-added : (n : ℕ) (k : Value) (x : ℤ) (es : List (Value × ℤ)) → IsSmall 1 x → ((q : Value) → IsSmall n (sum_of q es)) → (q : Value) → IsSmall (n + 1) (sum_of q (added k x es))
small-added n k x es one all q = subst (IsSmall (n + 1)) (sym (sum_of-added q k x es)) (by (is_eq (value_cmp q k)))
  where
    by : (b : Bool) → IsSmall (n + 1) (cond b (x +ℤ sum_of k es) (sum_of q es))
    by true = grows n x (sum_of k es) one (all k)
    by false = stays n (sum_of q es) (all q)

-- at most 2 ^ 31 of these are no more than 128 bits hold
pub fits : (n : ℕ) (x t : ℤ) → n < 2147483648 → IsSmall 1 x → IsSmall n t → (neg_ℤ (pos 85070591730234615865843651857942052864) ≤ℤ (x +ℤ t)) × ((x +ℤ t) ≤ℤ pos 85070591730234615865843651857942052864)
fits n x t lt a b = let la = a.low in let ha = a.high in let lb = b.low in let hb = b.high in (omega (arith, ints, lt), omega (arith, ints, lt))

-- ---- sums that are united one after the other

pub record IsUnited (all rest : List group.Group) (es : List (Value × ℤ)) : Type 0 where
  pub sums : added_all (map entry_in rest) es ≡ tallies (map entry_in all)
  pub small : All (IsWithin 2147483648) rest
  pub count : ℕ
  pub counted : count + length rest ≤ 2147483648
  pub within : (q : Value) → IsSmall count (sum_of q es)

pub united-none : (all : List group.Group) → AreFew 2147483648 all → IsUnited all all []
united-none all few = record { sums = all-added [] (map entry_in all); small = few.small; count = 0; counted = omega (arith, few.count); within = small-none }

pub united-more : (all : List group.Group) (g : group.Group) (rest : List group.Group) (es new : List (Value × ℤ)) → IsUnited all (g ∷ rest) es → new ≡ added g.key g.sum es → IsUnited all rest new
united-more all g rest es new h is = subst (IsUnited all rest) (sym is) (record {
  sums = h.sums;
  small = All-tail (IsWithin 2147483648) g rest h.small;
  count = h.count + 1;
  counted = omega (arith, h.counted);
  within = small-added h.count g.key g.sum es (small-one g (All-head (IsWithin 2147483648) g rest h.small)) h.within;
})

pub united-fits : (all : List group.Group) (g : group.Group) (rest : List group.Group) (es : List (Value × ℤ)) → IsUnited all (g ∷ rest) es
    → (neg_ℤ (pos 85070591730234615865843651857942052864) ≤ℤ (g.sum +ℤ sum_of g.key es)) × ((g.sum +ℤ sum_of g.key es) ≤ℤ pos 85070591730234615865843651857942052864)
united-fits all g rest es h = fits h.count g.sum (sum_of g.key es) (omega (arith, h.counted)) (small-one g (All-head (IsWithin 2147483648) g rest h.small)) (h.within g.key)
