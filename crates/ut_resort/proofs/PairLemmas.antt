-- Numbers that are compared one pair behind the other.
use Rattle.std.proofs.Common.{◌≡◌, ◌≢◌, inl, inr, ℕ, ◌<◌, false, ◌&&◌, ◌||◌, nat_eq, nat_lt, refl, sym, ap, ◌∙◌, arith}
use Rattle.std.specs.Ordering.{nat_cmp, is_lt, ordering_then, MatchOrdering}
use Rattle.std.specs.declared.cmp.Ordering.{Ordering}
use Rattle.std.specs.declared.cmp.Ordering.TheVariants.{Less, Equal, Greater}
use Rattle.std.proofs.lemmas.Bool.{lt-ltb, le-ltb, eq-eqb}
use Rattle.std.proofs.lemmas.Bool.Decides.{eqb_tells}
use Rattle.std.proofs.lemmas.Cmp.{ranked}

cmp-test : (c d : ℕ) (o : Ordering) → MatchOrdering o (c < d) (c ≡ d) (d < c) → is_lt o ≡ nat_lt c d
cmp-test c d Less h = sym (lt-ltb c d h)
cmp-test c d Equal h = sym (le-ltb c d (omega (arith, h)))
cmp-test c d Greater h = sym (le-ltb c d (omega (arith, h)))

not-eqb : (a b : ℕ) → a ≢ b → nat_eq a b ≡ false
not-eqb a b other = elim (eqb_tells a b) [ inl same ↦ absurd (other same.1) | inr apart ↦ apart.0 ]

-- less by the first pair, or by the second where the first are equal
pub then-test : (a b c d : ℕ) → is_lt (ordering_then (nat_cmp a b) (nat_cmp c d)) ≡ (nat_lt a b || (nat_eq a b && nat_lt c d))
then-test a b c d = by (nat_cmp a b) (ranked a b (nat_cmp a b) refl)
  where
    by : (o : Ordering) → MatchOrdering o (a < b) (a ≡ b) (b < a) → is_lt (ordering_then o (nat_cmp c d)) ≡ (nat_lt a b || (nat_eq a b && nat_lt c d))
    by Less h = sym (ap (λ t. t || (nat_eq a b && nat_lt c d)) (lt-ltb a b h))
    by Equal h = cmp-test c d (nat_cmp c d) (ranked c d (nat_cmp c d) refl)
        ∙ sym (λ i. le-ltb a b (omega (arith, h)) i || (eq-eqb a b h i && nat_lt c d))
    by Greater h = sym (λ i. le-ltb a b (omega (arith, h)) i || (not-eqb a b (λ e. omega (arith, e, h)) i && nat_lt c d))
