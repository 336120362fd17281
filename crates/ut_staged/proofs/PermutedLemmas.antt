-- The kept places in another order are each place that is kept, once.
use Rattle.std.proofs.Common.{ℕ, zero, suc, ◌+◌, ◌≤◌, ◌≡◌, ◌≢◌, ◌⊎◌, inl, inr, Bool, true, false, ◌&&◌, List, [], ◌∷◌, Some, refl, sym, ap, ◌∙◌, arith, nat_eq, slice_get, true≢false}
use Rattle.std.proofs.lemmas.Bool.{eqb-true, eq-eqb, and_parts, and_from}
use Rattle.std.proofs.lemmas.List.Sums.{sum_by-cons}
use Rattle.std.proofs.lemmas.List.Sorted.{IsPermutation-sym, Contains-permutation, sum_by-IsPermutation}
use Rattle.std.proofs.lemmas.Option.{slice_get-get_or, get_or_from_slice_get}
use Rattle.std.specs.List.{sum_by, Contains}
use Rattle.std.specs.List.Sorted.{IsPermutation}
use Rattle.ut_stamps.specs.declared.place.Place.{Place}
use Rattle.ut_stamps.specs.declared.place.Place.TheVariants.{L1, L2, Closed, Main}
use Rattle.ut_staged.specs.Staged.{Staged}
use Rattle.ut_staged.specs.Choice.{IsChoice}
use Rattle.ut_staged.proofs.ListLemmas.{none_some, some_same, get-within}

-- ---- places that are the same

abbrev same_place : Place → Place → Bool
same_place (L1 i) (L1 k) = nat_eq i k
same_place (L2 i) (L2 k) = nat_eq i k
same_place (Closed i) (Closed k) = nat_eq i k
same_place (Main p i) (Main q k) = nat_eq p q && nat_eq i k
same_place _ _ = false

same_is : (p q : Place) → same_place p q ≡ true → p ≡ q
same_is (L1 i) (L1 k) h = ap L1 (eqb-true i k h)
same_is (L2 i) (L2 k) h = ap L2 (eqb-true i k h)
same_is (Closed i) (Closed k) h = ap Closed (eqb-true i k h)
same_is (Main p i) (Main q k) h = let b = and_parts (nat_eq p q) (nat_eq i k) h in λ x. Main (eqb-true p q b.0 x) (eqb-true i k b.1 x)
same_is _ _ h = cc

is_same : (p : Place) → same_place p p ≡ true
is_same (L1 i) = eq-eqb i i refl
is_same (L2 i) = eq-eqb i i refl
is_same (Closed i) = eq-eqb i i refl
is_same (Main p i) = and_from (nat_eq p p) (nat_eq i i) (eq-eqb p p refl) (eq-eqb i i refl)

-- two places are the same, or not
pub cases_place : (p q : Place) → (p ≡ q) ⊎ (p ≢ q)
cases_place p q = by (same_place p q) refl
  where
    by : (b : Bool) → same_place p q ≡ b → (p ≡ q) ⊎ (p ≢ q)
    by true e = inl (same_is p q e)
    by false e = inr (λ same. true≢false (sym (is_same p) ∙ ap (same_place p) same ∙ e))

-- ---- how often a place stands in a list

abbrev one : Bool → ℕ
one true = 1
one false = 0

abbrev times : Place → List Place → ℕ
times p zs = sum_by (λ q. one (same_place p q)) zs

at_least : (p : Place) (zs : List Place) (i : ℕ) → slice_get zs i ≡ Some p → 1 ≤ times p zs
at_least p [] i h = absurd (none_some p h)
at_least p (z ∷ zs) zero h =
    let here : one (same_place p z) ≡ 1 = ap one (ap (same_place p) (some_same z p h) ∙ is_same p) in
    omega (arith, sum_by-cons (λ q. one (same_place p q)) z zs, here)
at_least p (z ∷ zs) (suc i) h = let more = at_least p zs i h in omega (arith, sum_by-cons (λ q. one (same_place p q)) z zs, more)

none_times : (p : Place) (zs : List Place) → ((i : ℕ) → slice_get zs i ≡ Some p → ⊥) → times p zs ≡ 0
none_times p [] h = refl
none_times p (z ∷ zs) h = sum_by-cons (λ q. one (same_place p q)) z zs ∙ (λ x. first x + none_times p zs (λ i e. h (suc i) e) x)
  where
    first : one (same_place p z) ≡ 0
    first = by (same_place p z) refl
      where
        by : (b : Bool) → same_place p z ≡ b → one b ≡ 0
        by true e = absurd (h 0 (ap Some (sym (same_is p z e))))
        by false e = refl

once_times : (p : Place) (zs : List Place) → ((i k : ℕ) → slice_get zs i ≡ Some p → slice_get zs k ≡ Some p → i ≡ k) → times p zs ≤ 1
once_times p [] h = omega arith
once_times p (z ∷ zs) h = by (same_place p z) refl (once_times p zs (λ i k e g. down i k (h (suc i) (suc k) e g)))
  where
    down : (i k : ℕ) → suc i ≡ suc k → i ≡ k
    down i k e = omega (arith, e)

    by : (b : Bool) → same_place p z ≡ b → times p zs ≤ 1 → times p (z ∷ zs) ≤ 1
    by true e rest =
        let none = none_times p zs (λ i g. absurd (omega (arith, h 0 (suc i) (ap Some (sym (same_is p z e))) g))) in
        omega (arith, sum_by-cons (λ q. one (same_place p q)) z zs, ap one e, none)
    by false e rest = omega (arith, sum_by-cons (λ q. one (same_place p q)) z zs, ap one e, rest)

apart_by : (p : Place) (zs : List Place) (i k : ℕ) → times p zs ≤ 1 → slice_get zs i ≡ Some p → slice_get zs k ≡ Some p → i ≡ k
apart_by p [] i k few h g = absurd (none_some p h)
apart_by p (z ∷ zs) zero zero few h g = refl
apart_by p (z ∷ zs) zero (suc k) few h g =
    let here : one (same_place p z) ≡ 1 = ap one (ap (same_place p) (some_same z p h) ∙ is_same p) in
    absurd (omega (arith, few, sum_by-cons (λ q. one (same_place p q)) z zs, here, at_least p zs k g))
apart_by p (z ∷ zs) (suc i) zero few h g =
    let here : one (same_place p z) ≡ 1 = ap one (ap (same_place p) (some_same z p g) ∙ is_same p) in
    absurd (omega (arith, few, sum_by-cons (λ q. one (same_place p q)) z zs, here, at_least p zs i h))
apart_by p (z ∷ zs) (suc i) (suc k) few h g = ap suc (apart_by p zs i k (omega (arith, few, sum_by-cons (λ q. one (same_place p q)) z zs)) h g)

-- ---- another order

contained : (zs : List Place) (i : ℕ) (p : Place) → slice_get zs i ≡ Some p → Contains zs p
contained zs i p h = (i, get-within zs i p h, get_or_from_slice_get zs i p p h)

index_of : (zs : List Place) (p : Place) → Contains zs p → (i : ℕ) × (slice_get zs i ≡ Some p)
index_of zs p h = (h.0, slice_get-get_or zs h.0 p h.1 ∙ ap Some h.2)

pub choice-permuted : (stay : ℕ) (s : Staged) (dropped : Place → Type 0) (xs ys : List Place) → IsPermutation xs ys → IsChoice stay s dropped xs → IsChoice stay s dropped ys
choice-permuted stay s dropped xs ys m c = record {
  parts = c.parts;
  rebuilt = λ i p h. let k = index_of xs p (Contains-permutation ys xs p (IsPermutation-sym xs ys m) (contained ys i p h)) in c.rebuilt k.0 p k.1;
  there = λ i p h. let k = index_of xs p (Contains-permutation ys xs p (IsPermutation-sym xs ys m) (contained ys i p h)) in c.there k.0 p k.1;
  all = λ p r at is. elim (c.all p r at is) [
    | inl d ↦ inl d
    | inr f ↦ inr (index_of ys p (Contains-permutation xs ys p m (contained xs f.0 p f.1)))
  ];
  apart = λ i k p h g. apart_by p ys i k (omega (arith, sum_by-IsPermutation (λ q. one (same_place p q)) xs ys m, once_times p xs (λ a b e f. c.apart a b p e f))) h g;
}
