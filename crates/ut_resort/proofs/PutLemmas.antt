-- A list in the order of a test, made by putting each element in its place, has the same elements, and they rise.
use Rattle.std.proofs.Common.{◌≡◌, zero, suc, ◌+◌, Bool, true, false, cond, List, [], ◌∷◌, get_or, refl, sym, ap, ◌∙◌, subst, arith, true≢false}
use Rattle.std.specs.List.Sorted.{IsPermutation, IsSorted}
use Rattle.std.specs.Cmp.{IsTotalOrder}
use Rattle.std.specs.Ordering.{is_lt, ordering_reverse}
use Rattle.std.specs.declared.cmp.Ordering.{Ordering}
use Rattle.std.specs.declared.cmp.Ordering.TheVariants.{Less, Equal, Greater}
use Rattle.std.proofs.lemmas.List.Sorted.{IsPermutation-refl, IsPermutation-cons, IsPermutation-middle, IsPermutation-trans}
use Rattle.ut_resort.specs.Resorted.{put, in_order}

-- ---- the same elements

module _ {X : Type 0} (before : X → X → Bool) where
  put-moved : (x : X) (ys : List X) → IsPermutation (x ∷ ys) (put before x ys)
  put-moved x [] = IsPermutation-refl (x ∷ [])
  put-moved x (y ∷ ys) = by (before y x) (put-moved x ys)
    where
      by : (b : Bool) → IsPermutation (x ∷ ys) (put before x ys) → IsPermutation (x ∷ y ∷ ys) (cond b (y ∷ put before x ys) (x ∷ y ∷ ys))
      by true moved = IsPermutation-trans (x ∷ y ∷ ys) (y ∷ x ∷ ys) (y ∷ put before x ys) (IsPermutation-middle (x ∷ []) y ys) (IsPermutation-cons y (x ∷ ys) (put before x ys) moved)
      by false moved = IsPermutation-refl (x ∷ y ∷ ys)

  pub in_order-moved : (xs : List X) → IsPermutation xs (in_order before xs)
  in_order-moved [] = IsPermutation-refl []
  in_order-moved (x ∷ xs) =
      IsPermutation-trans (x ∷ xs) (x ∷ in_order before xs) (put before x (in_order before xs))
      (IsPermutation-cons x xs (in_order before xs) (in_order-moved xs)) (put-moved x (in_order before xs))

-- ---- they rise

module _ {X : Type 0} {R : X → X → Ordering} (o : IsTotalOrder R) where
  abbrev before : X → X → Bool
  before a b = is_lt (R a b)

  -- the first of these isn't below an element
  abbrev Follow : X → List X → Type 0
  Follow x [] = Unit {0}
  Follow x (y ∷ ys) = before y x ≡ false

  abbrev Rise : List X → Type 0
  Rise [] = Unit {0}
  Rise (x ∷ xs) = Follow x xs × Rise xs

  turned : (a b : X) → before a b ≡ true → before b a ≡ false
  turned a b h = ap is_lt (o.antisymm b a) ∙ by (R a b) h
    where
      by : (r : Ordering) → is_lt r ≡ true → is_lt (ordering_reverse r) ≡ false
      by Less e = refl
      by Equal e = absurd (true≢false (sym e))
      by Greater e = absurd (true≢false (sym e))

  follow-put : (w x : X) (ys : List X) → before x w ≡ false → Follow w ys → Follow w (put before x ys)
  follow-put w x [] h f = h
  follow-put w x (y ∷ ys) h f = by (before y x)
    where
      by : (b : Bool) → Follow w (cond b (y ∷ put before x ys) (x ∷ y ∷ ys))
      by true = f
      by false = h

  rise-put : (x : X) (ys : List X) → Rise ys → Rise (put before x ys)
  rise-put x [] r = (tt, tt)
  rise-put x (y ∷ ys) r = by (before y x) refl (rise-put x ys r.1)
    where
      by : (b : Bool) → before y x ≡ b → Rise (put before x ys) → Rise (cond b (y ∷ put before x ys) (x ∷ y ∷ ys))
      by true e rest = (follow-put y x ys (turned y x e) r.0, rest)
      by false e rest = (e, r)

  rise-in_order : (xs : List X) → Rise (in_order before xs)
  rise-in_order [] = tt
  rise-in_order (x ∷ xs) = rise-put x (in_order before xs) (rise-in_order xs)

  sorted-from : (xs : List X) → Rise xs → IsSorted R xs
  sorted-from [] r k d le lt = absurd (omega (arith, lt))
  sorted-from (x ∷ []) r k d le lt = absurd (omega (arith, lt))
  sorted-from (x ∷ y ∷ ys) r zero d le lt = r.0
  sorted-from (x ∷ y ∷ ys) r (suc k) d le lt =
      let next : suc (k + 1) ≡ suc k + 1 = omega arith in
      subst (λ n. before (get_or (x ∷ y ∷ ys) n d) (get_or (x ∷ y ∷ ys) (suc k) d) ≡ false) next (sorted-from (y ∷ ys) r.1 k d (omega arith) (omega (arith, lt)))

  pub in_order-sorted : (xs : List X) → IsSorted R (in_order before xs)
  in_order-sorted xs = sorted-from (in_order before xs) (rise-in_order xs)
