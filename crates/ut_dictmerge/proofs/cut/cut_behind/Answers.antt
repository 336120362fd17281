use Rattle.std.proofs.Common.{◌≡◌, ◌-◌, ℕ, refl, sym, ◌∙◌, subst, arith, inl, inr}
use Rattle.std.specs.declared.cmp.Ordering.TheVariants.{Less, Equal, Greater}
use Rattle.ut_dictmerge.proofs.CutLemmas.{IsBetween, found, found_behind}
use Rattle.ut_dictmerge.proofs.cut.cut_behind.Goals as goal
use Rattle.ut_dictmerge.proofs.cut.cut_behind.Goals.{then-low-len-via-then-low-len, then-low-len-via-else-low-len+then-other-eq0}

pub returns-then-low-len : goal.returns-then-low-len
returns-then-low-len c =
    let e : c.loop-low.high ≡ c.loop-low.low = omega arith in
    let s = subst (λ (h : ℕ). IsBetween c.args.a.now c.args.b.now c.args.keys c.loop-low.low h) e c.loop-low.invariant in
    found c.args.a.now c.args.b.now c.args.keys c.loop-low.low (c.args.keys - c.loop-low.low) c.requires.ascending_a c.requires.ascending_b s refl
    (λ pos lt _. elim c.then-low-len.branch [ then-low-len-via-then-low-len w ↦ absurd (omega arith) | then-low-len-via-else-low-len+then-other-eq0 w ↦ absurd (omega arith) ])

pub returns-in-Equal-compare_at : goal.returns-in-Equal-compare_at
returns-in-Equal-compare_at c =
    let e : c.loop-low.high ≡ c.loop-low.low = omega arith in
    let s = subst (λ (h : ℕ). IsBetween c.args.a.now c.args.b.now c.args.keys c.loop-low.low h) e c.loop-low.invariant in
    found_behind c.args.a.now c.args.b.now c.args.keys c.loop-low.low (c.args.keys - c.loop-low.low) c.requires.ascending_a c.requires.ascending_b s refl (omega arith) (omega arith) (sym c.compare_at-2.ensures ∙ c.in-Equal-compare_at.is)

less_equal : Less ≡ Equal → ⊥
less_equal e = cc

greater_equal : Greater ≡ Equal → ⊥
greater_equal e = cc

pub returns-in-Less-compare_at : goal.returns-in-Less-compare_at
returns-in-Less-compare_at c =
    let e : c.loop-low.high ≡ c.loop-low.low = omega arith in
    let s = subst (λ (h : ℕ). IsBetween c.args.a.now c.args.b.now c.args.keys c.loop-low.low h) e c.loop-low.invariant in
    found c.args.a.now c.args.b.now c.args.keys c.loop-low.low (c.args.keys - c.loop-low.low) c.requires.ascending_a c.requires.ascending_b s refl
    (λ pos lt same. elim c.in-Less-compare_at.is [ inl less ↦ less_equal (sym less ∙ c.compare_at-2.ensures ∙ same) | inr greater ↦ greater_equal (sym greater ∙ c.compare_at-2.ensures ∙ same) ])
