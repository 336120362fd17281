use Rattle.std.proofs.Common.{◌≡◌, ◌+◌, ◌-◌, ◌∙◌, ℕ, List, ℤ, pos, ◌+ℤ◌, to_z, of_z, length, get_or, refl, sym, ap, subst, arith}
use Rattle.std.specs.Prelude.{◌-ℤ◌, ◌*ℤ◌}
use Rattle.std.specs.Int.{w128}
use Rattle.std.proofs.lemmas.Int.{ints}
use Rattle.ut_prefix.specs.Totals.{key_number, IsWithin}
use Rattle.ut_prefix.proofs.BlockLemmas.{at_first, at_next, CanDecode-one}
use Rattle.ut_prefix.proofs.TotalLemmas.{IsWithin-sum}
use Rattle.ut_prefix.proofs.AboveLemmas.{plain, above-first, above-next}
use Rattle.ut_prefix.proofs.weigh.read_above.Goals as goal

pub loop-i-init : goal.loop-i-init
loop-i-init c =
    let ws = c.args.weights.now in
    let key = c.from_slice-key.ensures ∙ c.first_of.ensures.key in
    let is : to_z w128 (of_z w128 c.above-sum.result) ≡ c.above-sum.result = plain 39614081257132168796771975168 1 c.above-sum.result (omega arith) c.above-sum.ensures.within in
    record {
      can = (at_first (length ws) (length ws - 1) (length ws - 1) c.args.block.now _ _ key c.first_of.ensures.rest refl (omega arith) c.requires.block).0;
      left = above-first c.args.usual ws c.args.block.now _ _ _ c.requires.some key c.first_of.ensures.rest
          (is ∙ c.above-sum.ensures.value ∙ ap (λ (l : List ℕ). (pos (get_or ws 0 0) -ℤ pos c.args.usual) *ℤ key_number l) c.as_slice.ensures.bytes);
      within = subst (λ (z : ℤ). IsWithin 39614081257132168796771975168 1 z) (sym is) c.above-sum.ensures.within;
    }

pub read_next-rest-requires : goal.read_next-rest-requires
read_next-rest-requires c =
    CanDecode-one (length c.args.weights.now - c.loop-i.i) (length c.args.weights.now - (c.loop-i.i + 1)) c.loop-i.key c.loop-i.rest.now (omega arith) c.loop-i.invariant.can

pub overflow_add-sum : goal.overflow_add-sum
overflow_add-sum c =
    let before = c.loop-i.invariant.within in
    let more = c.above-sum-in-loop-i.ensures.within in
    omega (arith, ints)

pub loop-i-preserved : goal.loop-i-preserved
loop-i-preserved c =
    let ws = c.args.weights.now in
    let i = c.loop-i.i in
    let before = c.loop-i.invariant.within in
    let more = c.above-sum-in-loop-i.ensures.within in
    let new : to_z w128 (of_z w128 (to_z w128 c.loop-i.sum-bits +ℤ to_z w128 (of_z w128 c.above-sum-in-loop-i.result))) ≡ to_z w128 c.loop-i.sum-bits +ℤ c.above-sum-in-loop-i.result = omega (arith, ints) in
    record {
      can = (at_next (length ws - i) (length ws - (i + 1)) c.loop-i.key c.loop-i.rest.now _ _ _ (omega arith) c.read_next-rest.ensures.key c.read_next-rest.ensures.rest c.loop-i.invariant.can refl).0;
      left = above-next c.args.usual ws i c.loop-i.key c.loop-i.rest.now _ _ _ c.above-sum-in-loop-i.result _ _ (omega arith) c.read_next-rest.ensures.key c.read_next-rest.ensures.rest
          (c.above-sum-in-loop-i.ensures.value ∙ ap (λ (l : List ℕ). (pos (get_or ws i 0) -ℤ pos c.args.usual) *ℤ key_number l) c.as_slice-in-loop-i.ensures.bytes)
          new c.loop-i.invariant.left;
      within = IsWithin-sum 39614081257132168796771975168 i 1 (i + 1) _ _ _ c.loop-i.invariant.within c.above-sum-in-loop-i.ensures.within new refl;
    }
