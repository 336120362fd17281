-- Sums over the passes, and beginnings of lists.
use Rattle.std.proofs.Common.{◌≡◌, ◌≢◌, ℕ, zero, suc, ◌+◌, ◌<◌, ◌≤◌, eqb, List, [], ◌∷◌, ◌++◌, length, set, sym, refl, ap, ◌∙◌, arith, append_assoc, length-append, ne_eqb}
use mathlib.Core.Option.{some, some-injective, some-ne-none}
use mathlib.Core.List.{IsPrefix}
use lib.ListN.{get_elem?}
use Rattle.ut_gate.specs.Counts.{total, one_if, times}

module _ {A : Type 0} (f : A → ℕ) where
  pub total_set : (l : List A) (i : ℕ) (v w : A) → get_elem? l i ≡ some v → total f (set l i w) + f v ≡ total f l + f w
  total_set [] i v w e = absurd (some-ne-none v (sym e))
  total_set (x ∷ xs) zero v w e = let s : f x ≡ f v = ap f (some-injective x v e) in omega arith
  total_set (x ∷ xs) (suc i) v w e = let h : total f (set xs i w) + f v ≡ total f xs + f w = total_set xs i v w e in omega arith

  pub total_append : (l m : List A) → total f (l ++ m) ≡ total f l + total f m
  total_append [] m = omega arith
  total_append (x ∷ xs) m = let h : total f (xs ++ m) ≡ total f xs + total f m = total_append xs m in omega arith

  pub total_snoc : (l : List A) (w : A) → total f (l ++ w ∷ []) ≡ total f l + f w
  total_snoc l w = let h = total_append l (w ∷ []) in omega arith

  pub total_none : (l : List A) → ((j : ℕ) (v : A) → get_elem? l j ≡ some v → f v ≡ 0) → total f l ≡ 0
  total_none [] h = refl
  total_none (x ∷ xs) h = let a : f x ≡ 0 = h 0 x refl in let b : total f xs ≡ 0 = total_none xs (λ j. h (suc j)) in omega arith

  pub total_few : (l : List A) → ((v : A) → f v ≤ 1) → total f l ≤ length l
  total_few [] h = omega arith
  total_few (x ∷ xs) h = let a : f x ≤ 1 = h x in let b : total f xs ≤ length xs = total_few xs h in omega arith

  pub one_in : (l : List A) (i : ℕ) (v : A) → get_elem? l i ≡ some v → f v ≤ total f l
  one_in [] i v e = absurd (some-ne-none v (sym e))
  one_in (x ∷ xs) zero v e = let s : f x ≡ f v = ap f (some-injective x v e) in omega arith
  one_in (x ∷ xs) (suc i) v e = let h : f v ≤ total f xs = one_in xs i v e in omega arith

  pub two_in : (l : List A) (i j : ℕ) (v w : A) → i ≢ j → get_elem? l i ≡ some v → get_elem? l j ≡ some w → f v + f w ≤ total f l
  two_in [] i j v w n e d = absurd (some-ne-none v (sym e))
  two_in (x ∷ xs) zero zero v w n e d = absurd (n refl)
  two_in (x ∷ xs) zero (suc j) v w n e d = let s : f x ≡ f v = ap f (some-injective x v e) in let h : f w ≤ total f xs = one_in xs j w d in omega arith
  two_in (x ∷ xs) (suc i) zero v w n e d = let s : f x ≡ f w = ap f (some-injective x w d) in let h : f v ≤ total f xs = one_in xs i v e in omega arith
  two_in (x ∷ xs) (suc i) (suc j) v w n e d = let h : f v + f w ≤ total f xs = two_in xs i j v w (λ q. n (ap suc q)) e d in omega arith

module _ {A : Type 0} where
  pub inside : (l : List A) (i : ℕ) (v : A) → get_elem? l i ≡ some v → i < length l
  inside [] i v e = absurd (some-ne-none v (sym e))
  inside (x ∷ xs) zero v e = omega arith
  inside (x ∷ xs) (suc i) v e = let h : i < length xs = inside xs i v e in omega arith

  pub prefix_refl : (l : List A) → IsPrefix l l
  prefix_refl [] = ([], refl)
  prefix_refl (x ∷ xs) = let h = prefix_refl xs in (h.0, ap (λ (t : List A). x ∷ t) h.1)

  pub prefix_trans : (a b c : List A) → IsPrefix a b → IsPrefix b c → IsPrefix a c
  prefix_trans a b c p q = (p.0 ++ q.0, sym (append_assoc a p.0 q.0) ∙ (ap (λ (t : List A). t ++ q.0) p.1 ∙ q.1))

  pub prefix_length : (a b : List A) → IsPrefix a b → length a ≤ length b
  prefix_length a b p = let e = ap (λ (t : List A). length t) p.1 in omega (arith, length-append a p.0, e)

-- nothing of a list below n is n
pub times_none : (n : ℕ) (l : List ℕ) → ((k p : ℕ) → get_elem? l k ≡ some p → p < n) → times n l ≡ 0
times_none n l h = total_none (λ x. one_if (eqb x n)) l (λ j v e. let less : v < n = h j v e in ap one_if (ne_eqb v n (λ q. omega arith)))
