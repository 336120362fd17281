-- Lists in the order of a test: there is one such list of elements that differ.
use Rattle.std.proofs.Common.{◌≡◌, ℕ, zero, suc, ◌<◌, ◌⊎◌, inl, inr, Bool, true, false, cond, List, [], ◌∷◌, length, get_or, All, refl, sym, ap, ◌∙◌, subst, arith, true≢false}
use Rattle.std.specs.List.{IsDistinct}
use Rattle.std.specs.List.Sorted.{IsPermutation, IsSorted}
use Rattle.std.specs.Cmp.{IsTotalOrder}
use Rattle.std.specs.Ordering.{is_lt, is_eq, eq_by_cmp, ordering_reverse}
use Rattle.std.specs.declared.cmp.Ordering.{Ordering}
use Rattle.std.specs.declared.cmp.Ordering.TheVariants.{Less, Equal, Greater}
use Rattle.std.proofs.lemmas.List.Sorted.{IsPermutation-sym, Contains-permutation, ranks_by, sorted_far}
use Rattle.std.proofs.lemmas.Map.Keys.{IsDistinct-IsPermutation, apart_from_distinct}
use Rattle.ut_resort.specs.Resorted.{put, in_order}

-- ---- elements of a list

abbrev In : {X : Type 0} → X → List X → Type 0
In x [] = ⊥
In x (y ∷ ys) = (x ≡ y) ⊎ In x ys

in-place : {X : Type 0} (x : X) (xs : List X) → In x xs → (k : ℕ) × (k < length xs) × ((d : X) → get_or xs k d ≡ x)
in-place x [] h = absurd h
in-place x (y ∷ ys) (inl same) = (0, omega arith, λ d. sym same)
in-place x (y ∷ ys) (inr there) = let r = in-place x ys there in (suc r.0, omega (arith, r.1), r.2)

in-get : {X : Type 0} (xs : List X) (k : ℕ) (d : X) → k < length xs → In (get_or xs k d) xs
in-get [] k d lt = absurd (omega (arith, lt))
in-get (x ∷ xs) zero d lt = inl refl
in-get (x ∷ xs) (suc k) d lt = inr (in-get xs k d (omega (arith, lt)))

in-permutation : {X : Type 0} (x : X) (xs ys : List X) → IsPermutation xs ys → In x xs → In x ys
in-permutation x xs ys moved h =
    let at = in-place x xs h in
    let there = Contains-permutation xs ys x moved (at.0, at.1, at.2 x) in
    subst (λ y. In y ys) there.2 (in-get ys there.0 x there.1)

-- ---- lists in order

abbrev IsBefore : {X : Type 0} → (X → X → Bool) → X → List X → Type 0
IsBefore before x [] = Unit {0}
IsBefore before x (y ∷ ys) = (before x y ≡ true) × IsBefore before x ys

abbrev AreInOrder : {X : Type 0} → (X → X → Bool) → List X → Type 0
AreInOrder before [] = Unit {0}
AreInOrder before (x ∷ xs) = IsBefore before x xs × AreInOrder before xs

-- of two that stand at different places one comes before the other
abbrev Differ : {X : Type 0} → (X → X → Bool) → List X → Type 0
Differ before [] = Unit {0}
Differ before (x ∷ xs) = ((y : _) → In y xs → (before x y ≡ true) ⊎ (before y x ≡ true)) × Differ before xs

module _ {X : Type 0} (before : X → X → Bool) (never : (x y : X) → before x y ≡ true → before y x ≡ true → ⊥) (trans : (x y z : X) → before x y ≡ true → before y z ≡ true → before x z ≡ true) where
  before-in : (x y : X) (ys : List X) → IsBefore before x ys → In y ys → before x y ≡ true
  before-in x y [] b h = absurd h
  before-in x y (z ∷ ys) b (inl same) = ap (before x) same ∙ b.0
  before-in x y (z ∷ ys) b (inr there) = before-in x y ys b.1 there

  same_order : (xs ys : List X) → AreInOrder before xs → AreInOrder before ys → ((x : X) → In x xs → In x ys) → ((x : X) → In x ys → In x xs) → xs ≡ ys
  same_order [] [] a b to from = refl
  same_order [] (y ∷ ys) a b to from = absurd (from y (inl refl))
  same_order (x ∷ xs) [] a b to from = absurd (to x (inl refl))
  same_order (x ∷ xs) (y ∷ ys) a b to from =
      let first : x ≡ y = heads (to x (inl refl)) (from y (inl refl)) in
      let rest : xs ≡ ys = same_order xs ys a.1 b.1
      (λ k h. elim (to k (inr h)) [ inl at ↦ absurd (itself x xs a.0 (subst (λ z. In z xs) (at ∙ sym first) h)) | inr there ↦ there ])
      (λ k h. elim (from k (inr h)) [ inl at ↦ absurd (itself y ys b.0 (subst (λ z. In z ys) (at ∙ first) h)) | inr there ↦ there ]) in
      λ i. first i ∷ rest i
    where
      itself : (z : X) (zs : List X) → IsBefore before z zs → In z zs → ⊥
      itself z zs c h = let e = before-in z z zs c h in never z z e e

      heads : (x ≡ y) ⊎ In x ys → (y ≡ x) ⊎ In y xs → x ≡ y
      heads (inl same) other = same
      heads (inr there) (inl same) = sym same
      heads (inr there) (inr also) = absurd (never x y (before-in x y xs a.0 also) (before-in y x ys b.0 there))

  in-put : (k x : X) (ys : List X) → In k (put before x ys) → (k ≡ x) ⊎ In k ys
  in-put k x [] h = h
  in-put k x (y ∷ ys) h = by (before y x) h (in-put k x ys)
    where
      by : (b : Bool) → In k (cond b (y ∷ put before x ys) (x ∷ y ∷ ys)) → (In k (put before x ys) → (k ≡ x) ⊎ In k ys) → (k ≡ x) ⊎ In k (y ∷ ys)
      by true (inl at) more = inr (inl at)
      by true (inr there) more = elim (more there) [ inl at ↦ inl at | inr on ↦ inr (inr on) ]
      by false g more = g

  put-in : (k x : X) (ys : List X) → (k ≡ x) ⊎ In k ys → In k (put before x ys)
  put-in k x [] h = h
  put-in k x (y ∷ ys) h = by (before y x) h (put-in k x ys)
    where
      by : (b : Bool) → (k ≡ x) ⊎ In k (y ∷ ys) → ((k ≡ x) ⊎ In k ys → In k (put before x ys)) → In k (cond b (y ∷ put before x ys) (x ∷ y ∷ ys))
      by true (inl at) more = inr (more (inl at))
      by true (inr (inl at)) more = inl at
      by true (inr (inr there)) more = inr (more (inr there))
      by false g more = g

  in-in_order : (k : X) (xs : List X) → In k (in_order before xs) → In k xs
  in-in_order k [] h = h
  in-in_order k (x ∷ xs) h = elim (in-put k x (in_order before xs) h) [ inl at ↦ inl at | inr there ↦ inr (in-in_order k xs there) ]

  in_order-in : (k : X) (xs : List X) → In k xs → In k (in_order before xs)
  in_order-in k [] h = h
  in_order-in k (x ∷ xs) (inl at) = put-in k x (in_order before xs) (inl at)
  in_order-in k (x ∷ xs) (inr there) = put-in k x (in_order before xs) (inr (in_order-in k xs there))

  before-all : (x y : X) (ys : List X) → before x y ≡ true → IsBefore before y ys → IsBefore before x ys
  before-all x y [] h b = tt
  before-all x y (z ∷ ys) h b = (trans x y z h b.0, before-all x y ys h b.1)

  before-put : (w x : X) (ys : List X) → before w x ≡ true → IsBefore before w ys → IsBefore before w (put before x ys)
  before-put w x [] h b = (h, tt)
  before-put w x (y ∷ ys) h b = by (before y x) (before-put w x ys h b.1)
    where
      by : (c : Bool) → IsBefore before w (put before x ys) → IsBefore before w (cond c (y ∷ put before x ys) (x ∷ y ∷ ys))
      by true rest = (b.0, rest)
      by false rest = (h, b)

  ordered-put : (x : X) (ys : List X) → AreInOrder before ys → ((y : X) → In y ys → (before x y ≡ true) ⊎ (before y x ≡ true)) → AreInOrder before (put before x ys)
  ordered-put x [] o d = (tt, tt)
  ordered-put x (y ∷ ys) o d = by (before y x) refl (ordered-put x ys o.1 (λ z h. d z (inr h)))
    where
      by : (c : Bool) → before y x ≡ c → AreInOrder before (put before x ys) → AreInOrder before (cond c (y ∷ put before x ys) (x ∷ y ∷ ys))
      by true e rest = (before-put y x ys e o.0, rest)
      by false e rest = elim (d y (inl refl)) [
        | inl lt ↦ ((lt, before-all x y ys lt o.0), o)
        | inr gt ↦ absurd (true≢false (sym gt ∙ e))
      ]

  ordered-in_order : (xs : List X) → Differ before xs → AreInOrder before (in_order before xs)
  ordered-in_order [] d = tt
  ordered-in_order (x ∷ xs) d = ordered-put x (in_order before xs) (ordered-in_order xs d.1) (λ y h. d.0 y (in-in_order y xs h))

  in_order-is : (xs ys : List X) → Differ before xs → AreInOrder before ys → ((x : X) → In x ys → In x xs) → ((x : X) → In x xs → In x ys) → ys ≡ in_order before xs
  in_order-is xs ys d o to from = same_order ys (in_order before xs) o (ordered-in_order xs d) (λ x h. in_order-in x xs (to x h)) (λ x h. from x (in-in_order x xs h))

-- ---- by a comparison

less : (o : Ordering) → is_lt o ≡ true → o ≡ Less
less Less h = refl
less Equal h = absurd (true≢false (sym h))
less Greater h = absurd (true≢false (sym h))

module _ {X : Type 0} {R : X → X → Ordering} (o : IsTotalOrder R) where
  abbrev before : X → X → Bool
  before a b = is_lt (R a b)

  never : (a b : X) → before a b ≡ true → before b a ≡ true → ⊥
  never a b h g = differ (sym (less (R b a) g) ∙ o.antisymm b a ∙ ap ordering_reverse (less (R a b) h))
    where
      differ : Less ≡ Greater → ⊥
      differ e = cc

  trans : (a b c : X) → before a b ≡ true → before b c ≡ true → before a c ≡ true
  trans a b c h g = ap is_lt (o.trans a b c (less (R a b) h) (less (R b c) g))

  one_first : (a b : X) → eq_by_cmp R a b ≡ false → (before a b ≡ true) ⊎ (before b a ≡ true)
  one_first a b other = by (R a b) refl
    where
      by : (r : Ordering) → R a b ≡ r → (before a b ≡ true) ⊎ (before b a ≡ true)
      by Less e = inl (ap is_lt e)
      by Equal e = absurd (true≢false (sym (ap is_eq e) ∙ other))
      by Greater e = inr (ap is_lt (o.antisymm b a ∙ ap ordering_reverse e))

  differ-from : (xs : List X) → ((i j : ℕ) (d : X) → i < j → j < length xs → eq_by_cmp R (get_or xs i d) (get_or xs j d) ≡ false) → Differ before xs
  differ-from [] apart = tt
  differ-from (x ∷ xs) apart = (
    λ y h. let at = in-place y xs h in one_first x y (ap (λ z. eq_by_cmp R x z) (sym (at.2 x)) ∙ apart 0 (suc at.0) x (omega arith) (omega (arith, at.1))),
    differ-from xs (λ i j d lt small. apart (suc i) (suc j) d (omega (arith, lt)) (omega (arith, small))),
  )

  ordered-from : (xs : List X) → ((i j : ℕ) (d : X) → i < j → j < length xs → before (get_or xs i d) (get_or xs j d) ≡ true) → AreInOrder before xs
  ordered-from [] up = tt
  ordered-from (x ∷ xs) up = (first xs (λ j d small. up 0 (suc j) d (omega arith) (omega (arith, small))), ordered-from xs (λ i j d lt small. up (suc i) (suc j) d (omega (arith, lt)) (omega (arith, small))))
    where
      first : (ys : List X) → ((j : ℕ) (d : X) → j < length ys → before x (get_or ys j d) ≡ true) → IsBefore before x ys
      first [] each = tt
      first (y ∷ ys) each = (each 0 x (omega arith), first ys (λ j d small. each (suc j) d (omega (arith, small))))

  rises : (a b : X) → is_lt (R b a) ≡ false → eq_by_cmp R a b ≡ false → before a b ≡ true
  rises a b above other = elim (one_first a b other) [ inl lt ↦ lt | inr gt ↦ absurd (true≢false (sym gt ∙ above)) ]

  -- what holds of all elements holds of them in order
  pub in_order-all : (P : X → Type 0) (xs : List X) → All P xs → All P (in_order before xs)
  in_order-all P xs all k d lt =
      let at = in-place (get_or (in_order before xs) k d) xs (in-in_order before never trans (get_or (in_order before xs) k d) xs (in-get (in_order before xs) k d lt)) in
      subst P (at.2 d) (all at.0 d at.1)

  -- Whatever puts elements that differ in order is the list in order: there is no other such order.
  pub only_order : (xs ys : List X) → IsDistinct (eq_by_cmp R) xs → IsPermutation xs ys → IsSorted R ys → ys ≡ in_order before xs
  only_order xs ys differ moved sorted =
      let flips : (x y : X) → eq_by_cmp R x y ≡ eq_by_cmp R y x = flip in
      let apart = IsDistinct-IsPermutation (eq_by_cmp R) flips xs ys moved differ in in_order-is before never trans xs ys
      (differ-from xs (λ i j d lt small. apart_from_distinct (eq_by_cmp R) xs i j d differ lt small))
      (ordered-from ys (λ i j d lt small. rises (get_or ys i d) (get_or ys j d) (sorted_far before (ranks_by o (λ (x : X). x)) ys sorted i j d (omega (arith, lt)) small) (apart_from_distinct (eq_by_cmp R) ys i j d apart lt small)))
      (λ x h. in-permutation x ys xs (IsPermutation-sym xs ys moved) h) (λ x h. in-permutation x xs ys moved h)
    where
      turned : (r : Ordering) → is_eq (ordering_reverse r) ≡ is_eq r
      turned Less = refl
      turned Equal = refl
      turned Greater = refl

      flip : (x y : X) → eq_by_cmp R x y ≡ eq_by_cmp R y x
      flip x y = ap is_eq (o.antisymm x y) ∙ turned (R y x)
