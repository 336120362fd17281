-- Sums of values.
use Rattle.std.proofs.Common.{◌≡◌, ℤ, ◌+ℤ◌, ℕ, zero, suc, ◌+◌, ◌<◌, List, [], ◌∷◌, length, drop, get_or, ap, ◌∙◌, arith}
use Rattle.std.proofs.lemmas.Int.{ints}
use Rattle.ut_value.specs.declared.value.Value.{Value}
use Rattle.ut_plain.specs.Query.{number_of, total}

-- the sum so far, and of those that are left
pub total_step : (s n t : ℤ) (vs : List Value) (i : ℕ) (d : Value) → i < length vs → n ≡ number_of (get_or vs i d) → s +ℤ total (drop i vs) ≡ t → (s +ℤ n) +ℤ total (drop (i + 1) vs) ≡ t
total_step s n t [] i d h e k = absurd (omega arith)
total_step s n t (v ∷ vs) zero d h e k = let m = number_of v in let rest = total vs in let same : (s +ℤ n) +ℤ rest ≡ s +ℤ (m +ℤ rest) = ap (λ x. (s +ℤ x) +ℤ rest) e ∙ grouped s m rest in same ∙ k
  where
    grouped : (a b c : ℤ) → (a +ℤ b) +ℤ c ≡ a +ℤ (b +ℤ c)
    grouped a b c = omega (arith, ints)
total_step s n t (v ∷ vs) (suc i) d h e k = let next : suc i + 1 ≡ suc (i + 1) = omega arith in ap (λ j. (s +ℤ n) +ℤ total (drop j (v ∷ vs))) next ∙ total_step s n t vs i d (omega arith) e k
