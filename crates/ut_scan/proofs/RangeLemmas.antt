-- Places that pass one test after another, and ranges of codes.
use Rattle.std.proofs.Common.{◌≡◌, inl, inr, ℕ, zero, suc, ◌+◌, ◌<◌, ◌≤◌, Bool, true, false, cond, ◌&&◌, ◌||◌, nat_le, nat_lt, if◌then◌else◌, Some, List, [], ◌∷◌, length, filter, get_or, slice_get, All, refl, sym, ◌∙◌, ap, arith}
use Rattle.std.proofs.lemmas.Bool.{cases_lt, and_left, and_right, lt-ltb, le-ltb, le-leb, lt-leb}
use Rattle.std.proofs.lemmas.Cmp.{nat_list_cmp_total, tied_itself}
use Rattle.std.proofs.lemmas.List.{get_or_default}
use Rattle.std.proofs.lemmas.List.Elements.{All-nil, All-cons, All-weaker}
use Rattle.std.proofs.lemmas.Option.{slice_get_within, get_or_from_slice_get}
use Rattle.std.specs.List.{range_with_len, Contains}
use Rattle.std.specs.Ordering.{is_eq}
use Rattle.std.specs.declared.cmp.Ordering.{Ordering}
use Rattle.std.specs.declared.cmp.Ordering.TheVariants.{Less, Equal, Greater}
use Rattle.ut_key.specs.declared.comparison.Cmp.TheVariants.{Eq}
use Rattle.ut_key.specs.Keys.{key_cmp, meets}
use Rattle.ut_bits.specs.Places.{is_in, places_from}
use Rattle.ut_own.proofs.MemberLemmas.{key_same}
use Rattle.ut_prefix.specs.Chain.{code_meets}
use Rattle.ut_main.specs.Columns.{AreDistinct}
use Rattle.ut_scan.specs.Coded.{is_between}

-- ---- places

-- what passes two tests, one after the other
pub filter-both : (t u w : ℕ → Bool) (a n : ℕ) → ((i : ℕ) → a ≤ i → i < a + n → w i ≡ (t i && u i)) → filter u (filter t (range_with_len a n)) ≡ filter w (range_with_len a n)
filter-both t u w a zero h = refl
filter-both t u w a (suc n) h = by (t a) (filter-both t u w (a + 1) n later) (h a (omega arith) (omega arith))
  where
    later : (i : ℕ) → a + 1 ≤ i → i < a + 1 + n → w i ≡ (t i && u i)
    later i low high = h i (omega (arith, low)) (omega (arith, high))

    by : (b : Bool) → filter u (filter t (range_with_len (a + 1) n)) ≡ filter w (range_with_len (a + 1) n) → w a ≡ (b && u a)
        → filter u (cond b (a ∷ filter t (range_with_len (a + 1) n)) (filter t (range_with_len (a + 1) n))) ≡ cond (w a) (a ∷ filter w (range_with_len (a + 1) n)) (filter w (range_with_len (a + 1) n))
    by true rec at = ap (λ l. cond (u a) (a ∷ l) l) rec ∙ ap (λ b. cond b (a ∷ filter w (range_with_len (a + 1) n)) (filter w (range_with_len (a + 1) n))) (sym at)
    by false rec at = rec ∙ ap (λ b. cond b (a ∷ filter w (range_with_len (a + 1) n)) (filter w (range_with_len (a + 1) n))) (sym at)

-- nothing passes
pub filter-none : (t : ℕ → Bool) (a n : ℕ) → ((i : ℕ) → a ≤ i → i < a + n → t i ≡ false) → filter t (range_with_len a n) ≡ []
filter-none t a zero h = refl
filter-none t a (suc n) h =
    ap (λ b. cond b (a ∷ filter t (range_with_len (a + 1) n)) (filter t (range_with_len (a + 1) n))) (h a (omega arith) (omega arith))
    ∙ filter-none t (a + 1) n (λ i low high. h i (omega (arith, low)) (omega (arith, high)))

-- the places whose element passes are those that pass the test of their element
pub places-filter : {X : Type 0} (t : X → Bool) (w : ℕ → Bool) (d : X) (a : ℕ) (xs : List X) → ((k : ℕ) → k < length xs → w (a + k) ≡ t (get_or xs k d)) → places_from t a xs ≡ filter w (range_with_len a (length xs))
places-filter t w d a [] h = refl
places-filter t w d a (x ∷ xs) h = by (t x) (places-filter t w d (a + 1) xs later) first
  where
    none_more : a + 0 ≡ a
    none_more = omega arith

    first : w a ≡ t x
    first = ap w (sym none_more) ∙ h 0 (omega arith)

    later : (k : ℕ) → k < length xs → w (a + 1 + k) ≡ t (get_or xs k d)
    later k lt = let e : a + 1 + k ≡ a + suc k = omega arith in ap w e ∙ h (suc k) (omega (arith, lt))

    by : (b : Bool) → places_from t (a + 1) xs ≡ filter w (range_with_len (a + 1) (length xs)) → w a ≡ b
        → (if b then a ∷ places_from t (a + 1) xs else places_from t (a + 1) xs) ≡ cond (w a) (a ∷ filter w (range_with_len (a + 1) (length xs))) (filter w (range_with_len (a + 1) (length xs)))
    by true rec at = ap (λ l. a ∷ l) rec ∙ ap (λ b. cond b (a ∷ filter w (range_with_len (a + 1) (length xs))) (filter w (range_with_len (a + 1) (length xs)))) (sym at)
    by false rec at = rec ∙ ap (λ b. cond b (a ∷ filter w (range_with_len (a + 1) (length xs))) (filter w (range_with_len (a + 1) (length xs)))) (sym at)

pub range-within : (a n : ℕ) → All (λ i. i < a + n) (range_with_len a n)
range-within a zero = All-nil (λ i. i < a + 0)
range-within a (suc n) =
    All-cons (λ i. i < a + suc n) a (range_with_len (a + 1) n) (omega arith)
    (All-weaker (λ i. i < a + 1 + n) (λ i. i < a + suc n) (λ i lt. omega (arith, lt)) (range_with_len (a + 1) n) (range-within (a + 1) n))

-- ---- the code of a key

or-false : (t : Bool) → (t || false) ≡ t
or-false true = refl
or-false false = refl

untied : (a b : List ℕ) → (a ≡ b → ⊥) → is_eq (key_cmp a b) ≡ false
untied a b differ = by (key_cmp a b) refl
  where
    by : (o : Ordering) → key_cmp a b ≡ o → is_eq o ≡ false
    by Less e = refl
    by Equal e = absurd (differ (key_same a b e))
    by Greater e = refl

none-meets : (keys : List (List ℕ)) (key : List ℕ) (code : ℕ) → (code < length keys → get_or keys code [] ≡ key → ⊥) → code_meets Eq key keys code ≡ false
none-meets keys key code differ = elim (cases_lt code (length keys)) [
  | inl lt ↦ and_right (nat_lt code (length keys)) (meets Eq key (get_or keys code [])) (untied (get_or keys code []) key (differ lt))
  | inr ge ↦ and_left (nat_lt code (length keys)) (meets Eq key (get_or keys code [])) (le-ltb code (length keys) ge)
]

-- a key that isn't there has no code
pub absent-range : (keys : List (List ℕ)) (key : List ℕ) (code : ℕ) → ¬ Contains keys key → is_in [] code ≡ code_meets Eq key keys code
absent-range keys key code none = sym (none-meets keys key code (λ lt same. none (code, lt, get_or_default keys code key [] lt ∙ same)))

-- the code of a key, among keys that differ
pub found-range : (keys : List (List ℕ)) (key : List ℕ) (k code : ℕ) → AreDistinct keys → slice_get keys k ≡ Some key → is_in ((k, k + 1) ∷ []) code ≡ code_meets Eq key keys code
found-range keys key k code distinct there = elim (cases_lt code k) [
  | inl lt ↦ ap (λ b. (b && nat_lt code (k + 1)) || false) (lt-leb k code lt) ∙ sym (none-meets keys key code (λ _ same. distinct code k lt within (same ∙ sym at)))
  | inr ge ↦ elim (cases_lt k code) [
    | inl lt ↦ past lt
    | inr le ↦ here (omega (arith, ge, le))
  ]
]
  where
    within : k < length keys
    within = slice_get_within keys k key there

    at : get_or keys k [] ≡ key
    at = get_or_from_slice_get keys k key [] there

    past : k < code → is_in ((k, k + 1) ∷ []) code ≡ code_meets Eq key keys code
    past lt =
        or-false (is_between (k, k + 1) code) ∙ and_right (nat_le k code) (nat_lt code (k + 1)) (le-ltb code (k + 1) (omega (arith, lt)))
        ∙ sym (none-meets keys key code (λ low same. distinct k code lt low (at ∙ sym same)))

    here : code ≡ k → is_in ((k, k + 1) ∷ []) code ≡ code_meets Eq key keys code
    here e =
        ap (λ n. is_in ((k, k + 1) ∷ []) n) e
        ∙ (λ i. (le-leb k k (omega arith) i && lt-ltb k (k + 1) (omega arith) i) || false)
        ∙ (λ i. sym (lt-ltb k (length keys) within) i && is_eq (sym (ap (λ a. key_cmp a key) at ∙ tied_itself nat_list_cmp_total key) i))
        ∙ ap (code_meets Eq key keys) (sym e)
