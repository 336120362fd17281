use Rattle.std.proofs.Common.{◌≡◌, ℕ, ◌+◌, ◌-◌, ◌≤◌, ◌++◌, [], ◌∷◌, ap, ◌∙◌, arith, append_assoc}
use Rattle.std.specs.List.{range_with_len}
use Rattle.ut_bits.proofs.PlacesLemmas.{range_with_len-more}
use Rattle.ut_bits.proofs.ranges.append_range.Goals as goal

range-next : (a i : ℕ) → a ≤ i → range_with_len a (i - a) ++ i ∷ [] ≡ range_with_len a (i + 1 - a)
range-next a i h =
    let here : i ≡ a + (i - a) = omega arith in
    let next : i - a + 1 ≡ i + 1 - a = omega arith in
    ap (λ (n : ℕ). range_with_len a (i - a) ++ n ∷ []) here ∙ range_with_len-more a (i - a) ∙ ap (λ (n : ℕ). range_with_len a n) next

pub loop-i-preserved : goal.loop-i-preserved
loop-i-preserved c =
    c.in_ok-push_or_cut.ensures.ok ∙ ap (λ l. l ++ c.loop-i.i ∷ []) c.loop-i.invariant ∙ append_assoc c.args.out.now.items _ _ ∙ ap (λ l. c.args.out.now.items ++ l) (range-next c.args.from c.loop-i.i (omega arith))
