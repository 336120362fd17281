-- Elements of a list once one of them is set.
use Rattle.std.proofs.Common.{◌≡◌, ℕ, zero, suc, ◌<◌, nat_eq, List, [], ◌∷◌, length, set, refl, ap, arith}
use Rattle.std.specs.Prelude.{slice_get}
use Rattle.std.specs.Option.{unwrap_or}
use Rattle.std.proofs.lemmas.Bool.{eqb-true, eq-eqb}
use Rattle.ut_plain.proofs.BoolLemmas.{Tested, tested, Passes, Fails, not_both}

pub set_here : {X : Type 0} (d : X) (xs : List X) (i : ℕ) (x : X) → i < length xs → unwrap_or (slice_get (set xs i x) i) d ≡ x
set_here d [] i x lt = absurd (omega (arith, lt))
set_here d (y ∷ xs) zero x lt = refl
set_here d (y ∷ xs) (suc i) x lt = set_here d xs i x (omega (arith, lt))

pub set_other : {X : Type 0} (d : X) (xs : List X) (i j : ℕ) (x : X) → (j ≡ i → ⊥) → unwrap_or (slice_get (set xs i x) j) d ≡ unwrap_or (slice_get xs j) d
set_other d [] i j x other = refl
set_other d (y ∷ xs) zero zero x other = absurd (other refl)
set_other d (y ∷ xs) zero (suc j) x other = refl
set_other d (y ∷ xs) (suc i) zero x other = refl
set_other d (y ∷ xs) (suc i) (suc j) x other = set_other d xs i j x (λ e. other (ap suc e))

-- one of two numbers, or another
pub data Which (j i : ℕ) : Type 0 where
  Same : j ≡ i → Which j i
  Other : (j ≡ i → ⊥) → Which j i

pub which : (j i : ℕ) → Which j i
which j i = by (tested (nat_eq j i))
  where
    by : Tested (nat_eq j i) → Which j i
    by (Passes e) = Same (eqb-true j i e)
    by (Fails e) = Other (λ same. not_both (nat_eq j i) (eq-eqb j i same) e)
