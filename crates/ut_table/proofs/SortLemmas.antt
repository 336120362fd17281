-- Each list can be put in the order of a number of its elements.
use Rattle.std.proofs.Common.{inl, inr, ℕ, zero, suc, ◌<◌, ◌≤◌, List, [], ◌∷◌, length, get_or, arith}
use Rattle.std.specs.List.Sorted.{IsPermutation, IsNonDecreasingBy}
use Rattle.std.proofs.lemmas.Bool.{cases_lt}
use Rattle.std.proofs.lemmas.List.Elements.{All-cons}
use Rattle.std.proofs.lemmas.List.Sorted.{IsPermutation-refl, IsPermutation-trans, IsPermutation-cons, IsPermutation-middle, IsNonDecreasingBy-short, All-permutation}

module _ {X : Type 0} (n : X → ℕ) where
  -- a list with the same elements, in order
  pub record InOrder (xs : List X) : Type 0 where
    pub list : List X
    pub same : IsPermutation xs list
    pub up : IsNonDecreasingBy n list

  -- an element before others that are not below it
  rising-cons : (x : X) (xs : List X) → ((k : ℕ) (d : X) → k < length xs → n x ≤ n (get_or xs k d)) → IsNonDecreasingBy n xs → IsNonDecreasingBy n (x ∷ xs)
  rising-cons x xs all up = by
    where
      by : (i j : ℕ) (d : X) → i ≤ j → j < length (x ∷ xs) → n (get_or (x ∷ xs) i d) ≤ n (get_or (x ∷ xs) j d)
      by zero zero d le lt = omega arith
      by zero (suc j) d le lt = all j d (omega (arith, lt))
      by (suc i) zero d le lt = absurd (omega (arith, le))
      by (suc i) (suc j) d le lt = up i j d (omega (arith, le)) (omega (arith, lt))

  -- one element more at its place
  placed : (x : X) (ys : List X) → IsNonDecreasingBy n ys → InOrder (x ∷ ys)
  placed x [] up = record { list = x ∷ []; same = IsPermutation-refl (x ∷ []); up = IsNonDecreasingBy-short n (x ∷ []) (omega arith) }
  placed x (y ∷ ys) up = elim (cases_lt (n y) (n x)) [
    | inl lt ↦ behind lt (placed x ys (λ i j d le less. up (suc i) (suc j) d (omega (arith, le)) (omega (arith, less))))
    | inr le ↦ record {
      list = x ∷ y ∷ ys;
      same = IsPermutation-refl (x ∷ y ∷ ys);
      up = rising-cons x (y ∷ ys) (λ k d less. let far = up 0 k d (omega arith) less in omega (arith, le, far)) up;
    }
  ]
    where
      behind : n y < n x → InOrder (x ∷ ys) → InOrder (x ∷ y ∷ ys)
      behind lt r = record {
        list = y ∷ r.list;
        same = IsPermutation-trans (x ∷ y ∷ ys) (y ∷ x ∷ ys) (y ∷ r.list) (IsPermutation-middle (x ∷ []) y ys) (IsPermutation-cons y (x ∷ ys) r.list r.same);
        up = rising-cons y r.list
            (All-permutation (λ z. n y ≤ n z) (x ∷ ys) r.list r.same (All-cons (λ z. n y ≤ n z) x ys (omega (arith, lt)) (λ k d less. up 0 (suc k) d (omega arith) (omega (arith, less)))))
            r.up;
      }

  pub ordered : (xs : List X) → InOrder xs
  ordered [] = record { list = []; same = IsPermutation-refl []; up = λ i j d le lt. absurd (omega (arith, lt)) }
  ordered (x ∷ xs) =
      let r = ordered xs in
      let s = placed x r.list r.up in
      record { list = s.list; same = IsPermutation-trans (x ∷ xs) (x ∷ r.list) s.list (IsPermutation-cons x xs r.list r.same) s.same; up = s.up }
