-- Elements of lists, and ascending lists: by an order that tells elements apart there is one such list of the same elements.
use Rattle.std.proofs.Common.{◌≡◌, ◌⊎◌, inl, inr, ℕ, zero, suc, ◌<◌, Contains, List, [], ◌∷◌, length, get_or, refl, sym, ap, ◌∙◌, subst, arith}
use Rattle.std.specs.declared.cmp.Ordering.{Ordering}
use Rattle.std.specs.declared.cmp.Ordering.TheVariants.{Less, Equal, Greater}
use Rattle.std.specs.Cmp.{IsTotalOrder}
use Rattle.std.specs.Ordering.{ordering_reverse}
use Rattle.std.proofs.lemmas.Cmp.{tied_itself}

-- ---- elements

module _ {X : Type 0} where
  abbrev pub In : X → List X → Type 0
  In x [] = ⊥
  In x (y ∷ ys) = (x ≡ y) ⊎ In x ys

  pub contains_in : (x : X) (xs : List X) → In x xs → Contains xs x
  contains_in x [] h = absurd h
  contains_in x (y ∷ ys) (inl same) = (0, omega arith, sym same)
  contains_in x (y ∷ ys) (inr there) = let r = contains_in x ys there in (suc r.0, omega (arith, r.1), r.2)

  pub in_contains : (x : X) (xs : List X) → Contains xs x → In x xs
  in_contains x [] h = absurd (omega (arith, h.1))
  in_contains x (y ∷ ys) h = by h.0 h.1 h.2 (in_contains x ys)
    where
      by : (k : ℕ) → k < length (y ∷ ys) → get_or (y ∷ ys) k x ≡ x → (Contains ys x → In x ys) → In x (y ∷ ys)
      by zero lt at more = inl (sym at)
      by (suc k) lt at more = inr (more (k, omega (arith, lt), at))

-- ---- ascending lists

module _ {X : Type 0} {R : X → X → Ordering} (o : IsTotalOrder R) where
  abbrev pub Below : X → List X → Type 0
  Below x [] = Unit {0}
  Below x (y ∷ ys) = (R x y ≡ Less) × Below x ys

  abbrev pub Ascends : List X → Type 0
  Ascends [] = Unit {0}
  Ascends (x ∷ xs) = Below x xs × Ascends xs

  below-at : (x : X) (ys : List X) (k : ℕ) (d : X) → Below x ys → k < length ys → R x (get_or ys k d) ≡ Less
  below-at x [] k d b lt = absurd (omega (arith, lt))
  below-at x (y ∷ ys) zero d b lt = b.0
  below-at x (y ∷ ys) (suc k) d b lt = below-at x ys k d b.1 (omega (arith, lt))

  pub ascends-at : (xs : List X) → Ascends xs → (i j : ℕ) (d : X) → i < j → j < length xs → R (get_or xs i d) (get_or xs j d) ≡ Less
  ascends-at [] up i j d lt small = absurd (omega (arith, small))
  ascends-at (x ∷ xs) up zero zero d lt small = absurd (omega (arith, lt))
  ascends-at (x ∷ xs) up zero (suc j) d lt small = below-at x xs j d up.0 (omega (arith, small))
  ascends-at (x ∷ xs) up (suc i) zero d lt small = absurd (omega (arith, lt))
  ascends-at (x ∷ xs) up (suc i) (suc j) d lt small = ascends-at xs up.1 i j d (omega (arith, lt)) (omega (arith, small))

  pub ascends-from : (xs : List X) → ((i j : ℕ) (d : X) → i < j → j < length xs → R (get_or xs i d) (get_or xs j d) ≡ Less) → Ascends xs
  ascends-from [] up = tt
  ascends-from (x ∷ xs) up = (first xs (λ j small. up 0 (suc j) x (omega arith) (omega (arith, small))), ascends-from xs (λ i j d lt small. up (suc i) (suc j) d (omega (arith, lt)) (omega (arith, small))))
    where
      first : (ys : List X) → ((j : ℕ) → j < length ys → R x (get_or ys j x) ≡ Less) → Below x ys
      first [] each = tt
      first (y ∷ ys) each = (each 0 (omega arith), first ys (λ j small. each (suc j) (omega (arith, small))))

  -- a key below all of these isn't one of them
  not-below : (x : X) (ys : List X) → Below x ys → In x ys → ⊥
  not-below x [] b h = h
  not-below x (y ∷ ys) b (inl same) = differ (sym b.0 ∙ ap (R x) (sym same) ∙ tied_itself o x)
    where
      differ : Less ≡ Equal → ⊥
      differ e = cc
  not-below x (y ∷ ys) b (inr there) = not-below x ys b.1 there

  below-in : (x z : X) (ys : List X) → Below x ys → In z ys → R x z ≡ Less
  below-in x z [] b h = absurd h
  below-in x z (y ∷ ys) b (inl same) = ap (R x) same ∙ b.0
  below-in x z (y ∷ ys) b (inr there) = below-in x z ys b.1 there

  pub same_members : (xs ys : List X) → Ascends xs → Ascends ys → ((k : X) → In k xs → In k ys) → ((k : X) → In k ys → In k xs) → xs ≡ ys
  same_members [] [] a b to from = refl
  same_members [] (y ∷ ys) a b to from = absurd (from y (inl refl))
  same_members (x ∷ xs) [] a b to from = absurd (to x (inl refl))
  same_members (x ∷ xs) (y ∷ ys) a b to from =
      let first : x ≡ y = heads (to x (inl refl)) (from y (inl refl)) in
      let rest : xs ≡ ys = same_members xs ys a.1 b.1
      (λ k h. elim (to k (inr h)) [ inl at ↦ absurd (not-below x xs a.0 (subst (λ z. In z xs) (at ∙ sym first) h)) | inr there ↦ there ])
      (λ k h. elim (from k (inr h)) [ inl at ↦ absurd (not-below y ys b.0 (subst (λ z. In z ys) (at ∙ first) h)) | inr there ↦ there ]) in
      λ i. first i ∷ rest i
    where
      turned : (a b : X) → R a b ≡ Less → R b a ≡ Greater
      turned a b h = o.antisymm b a ∙ ap ordering_reverse h

      heads : (x ≡ y) ⊎ In x ys → (y ≡ x) ⊎ In y xs → x ≡ y
      heads (inl same) other = same
      heads (inr there) (inl same) = sym same
      heads (inr there) (inr also) = absurd (both (sym (turned y x (below-in y x ys b.0 there)) ∙ below-in x y xs a.0 also))
        where
          both : Greater ≡ Less → ⊥
          both e = cc
