-- The best of values, found by walking over them, is the one that none of them beats.
use Rattle.std.proofs.Common.{◌≡◌, ℕ, zero, suc, ◌<◌, Bool, true, false, if◌then◌else◌, All, Contains, List, [], ◌∷◌, length, get_or, Some, refl, sym, ap, ◌∙◌, arith, true≢false}
use Rattle.std.specs.declared.cmp.Ordering.{Ordering}
use Rattle.std.specs.declared.cmp.Ordering.TheVariants.{Less, Equal, Greater}
use Rattle.std.specs.Ordering.{is_lt, is_gt, ordering_reverse}
use Rattle.std.proofs.lemmas.Cmp.{tied_itself, upto}
use Rattle.std.proofs.lemmas.List.Elements.{All-cons, All-nil, All-contains}
use Rattle.ut_value.specs.declared.value.Value.{Value}
use Rattle.ut_value.specs.KeyOrder.{value_cmp}
use Rattle.ut_plain.specs.Query.{best_from}
use Rattle.ut_meaning.specs.Best.{TellsBest, IsOnlyBest}
use Rattle.ut_ops.specs.ValueOrder.{value_cmp_total, equal_values}

module _ (beats : Ordering → Bool) where
  -- one doesn't beat the other
  abbrev Yields : Value → Value → Type 0
  Yields a b = beats (value_cmp a b) ≡ false

  module _ (back : (a b : Value) → beats (value_cmp a b) ≡ true → Yields b a) (itself : (a : Value) → Yields a a)
      (through : (a b c : Value) → Yields a b → Yields b c → Yields a c) (apart : (a b : Value) → Yields a b → Yields b a → a ≡ b) where
    start-yields : (s : Value) (vs : List Value) → Yields s (best_from beats s vs)
    start-yields s [] = itself s
    start-yields s (v ∷ vs) = by (beats (value_cmp v s)) refl (start-yields v vs) (start-yields s vs)
      where
        by : (b : Bool) → beats (value_cmp v s) ≡ b → Yields v (best_from beats v vs) → Yields s (best_from beats s vs) → Yields s (best_from beats (if b then v else s) vs)
        by true e new old = through s v (best_from beats v vs) (back v s e) new
        by false e new old = old

    others-yield : (s : Value) (vs : List Value) → All (λ w. Yields w (best_from beats s vs)) vs
    others-yield s [] = All-nil (λ w. Yields w s)
    others-yield s (v ∷ vs) = by (beats (value_cmp v s)) refl (others-yield v vs) (others-yield s vs)
      where
        by : (b : Bool) → beats (value_cmp v s) ≡ b → All (λ w. Yields w (best_from beats v vs)) vs → All (λ w. Yields w (best_from beats s vs)) vs
            → All (λ w. Yields w (best_from beats (if b then v else s) vs)) (v ∷ vs)
        by true e new old = All-cons (λ w. Yields w (best_from beats v vs)) v vs (start-yields v vs) new
        by false e new old = All-cons (λ w. Yields w (best_from beats s vs)) v vs (through v s (best_from beats s vs) e (start-yields s vs)) old

    stands : (s : Value) (vs : List Value) → Contains (s ∷ vs) (best_from beats s vs)
    stands s [] = (0, omega arith, refl)
    stands s (v ∷ vs) = by (beats (value_cmp v s)) (stands v vs) (stands s vs)
      where
        between : (x : Value) (k : ℕ) → k < length (s ∷ vs) → get_or (s ∷ vs) k x ≡ x → Contains (s ∷ v ∷ vs) x
        between x zero lt at = (0, omega arith, at)
        between x (suc k) lt at = (suc (suc k), omega (arith, lt), at)

        by : (b : Bool) → Contains (v ∷ vs) (best_from beats v vs) → Contains (s ∷ vs) (best_from beats s vs) → Contains (s ∷ v ∷ vs) (best_from beats (if b then v else s) vs)
        by true new old = (suc new.0, omega (arith, new.1), new.2)
        by false new old = between (best_from beats s vs) old.0 old.1 old.2

    all-yield : (s : Value) (vs : List Value) → All (λ w. Yields w (best_from beats s vs)) (s ∷ vs)
    all-yield s vs = All-cons (λ w. Yields w (best_from beats s vs)) s vs (start-yields s vs) (others-yield s vs)

    tells : TellsBest beats
    tells [] = (tt, refl)
    tells (v ∷ vs) = (record { there = stands v vs; unbeaten = all-yield v vs }, tt)

    only : IsOnlyBest beats
    only [] v h = absurd (omega (arith, h.there.1))
    only (w ∷ ws) v h = ap Some (apart (best_from beats w ws) v
        (All-contains (λ x. Yields x v) (w ∷ ws) (best_from beats w ws) h.unbeaten (stands w ws))
        (All-contains (λ x. Yields x (best_from beats w ws)) (w ∷ ws) v (all-yield w ws) h.there))

-- ---- by the two ways of beating

turned : (a b : Value) → value_cmp b a ≡ ordering_reverse (value_cmp a b)
turned a b = value_cmp_total.antisymm b a

lt-back : (a b : Value) → is_lt (value_cmp a b) ≡ true → is_lt (value_cmp b a) ≡ false
lt-back a b h = ap is_lt (turned a b) ∙ by (value_cmp a b) h
  where
    by : (o : Ordering) → is_lt o ≡ true → is_lt (ordering_reverse o) ≡ false
    by Less e = refl
    by Equal e = absurd (true≢false (sym e))
    by Greater e = absurd (true≢false (sym e))

gt-back : (a b : Value) → is_gt (value_cmp a b) ≡ true → is_gt (value_cmp b a) ≡ false
gt-back a b h = ap is_gt (turned a b) ∙ by (value_cmp a b) h
  where
    by : (o : Ordering) → is_gt o ≡ true → is_gt (ordering_reverse o) ≡ false
    by Less e = absurd (true≢false (sym e))
    by Equal e = absurd (true≢false (sym e))
    by Greater e = refl

reversed : (o : Ordering) → is_gt (ordering_reverse o) ≡ is_lt o
reversed Less = refl
reversed Equal = refl
reversed Greater = refl

lt-through : (a b c : Value) → is_lt (value_cmp a b) ≡ false → is_lt (value_cmp b c) ≡ false → is_lt (value_cmp a c) ≡ false
lt-through a b c h g =
    sym (reversed (value_cmp a c)) ∙ ap is_gt (sym (turned a c))
    ∙ upto value_cmp_total c b a (ap is_gt (turned b c) ∙ reversed (value_cmp b c) ∙ g) (ap is_gt (turned a b) ∙ reversed (value_cmp a b) ∙ h)

lt-apart : (a b : Value) → is_lt (value_cmp a b) ≡ false → is_lt (value_cmp b a) ≡ false → a ≡ b
lt-apart a b h g = equal_values a b (by (value_cmp a b) h (ap is_lt (sym (turned a b)) ∙ g))
  where
    by : (o : Ordering) → is_lt o ≡ false → is_lt (ordering_reverse o) ≡ false → o ≡ Equal
    by Less e f = absurd (true≢false e)
    by Equal e f = refl
    by Greater e f = absurd (true≢false f)

gt-apart : (a b : Value) → is_gt (value_cmp a b) ≡ false → is_gt (value_cmp b a) ≡ false → a ≡ b
gt-apart a b h g = equal_values a b (by (value_cmp a b) h (ap is_gt (sym (turned a b)) ∙ g))
  where
    by : (o : Ordering) → is_gt o ≡ false → is_gt (ordering_reverse o) ≡ false → o ≡ Equal
    by Less e f = absurd (true≢false f)
    by Equal e f = refl
    by Greater e f = absurd (true≢false e)

lt-itself : (a : Value) → is_lt (value_cmp a a) ≡ false
lt-itself a = ap is_lt (tied_itself value_cmp_total a)

gt-itself : (a : Value) → is_gt (value_cmp a a) ≡ false
gt-itself a = ap is_gt (tied_itself value_cmp_total a)

pub least-told : TellsBest is_lt
least-told = tells is_lt lt-back lt-itself lt-through lt-apart

pub least-only : IsOnlyBest is_lt
least-only = only is_lt lt-back lt-itself lt-through lt-apart

pub greatest-told : TellsBest is_gt
greatest-told = tells is_gt gt-back gt-itself (upto value_cmp_total) gt-apart

pub greatest-only : IsOnlyBest is_gt
greatest-only = only is_gt gt-back gt-itself (upto value_cmp_total) gt-apart
