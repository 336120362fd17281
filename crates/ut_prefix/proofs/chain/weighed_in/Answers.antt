use Rattle.std.proofs.Common.{◌≡◌, ◌+◌, ◌+ℤ◌, [], ℕ, to_z, of_z, length, length-append, min, take, get_or, sym, ap, ◌∙◌, arith}
use Rattle.std.specs.Int.{w128}
use Rattle.std.specs.Arc.{arc_value}
use Rattle.std.proofs.lemmas.Int.{ints}
use Rattle.std.proofs.lemmas.List.{length-map}
use Rattle.ut_prefix.specs.Chain.{shared_dicts, end_to_end}
use Rattle.ut_prefix.proofs.ChainLemmas.{dict_at, end_to_end-more, end_to_end-within}
use Rattle.ut_prefix.proofs.TotalLemmas.{IsWithin-sum}
use Rattle.ut_prefix.proofs.AboveLemmas.{dict-more, dicts-end}
use Rattle.ut_prefix.proofs.chain.weighed_in.Goals as goal

pub overflow_add-sum : goal.overflow_add-sum
overflow_add-sum c =
    let at = dict_at c.args.dicts.now c.loop-dict.dict-index c.dict-item.result c.deref-in-loop-dict.result.now c.loop-dict-test.true c.dict-item.is c.deref-in-loop-dict.ensures in
    let all = end_to_end-within (shared_dicts c.args.dicts.now) c.loop-dict.dict-index at.0 in
    let size = ap (λ l. length l) at.1 in
    let before = c.loop-dict.invariant.1 in
    let more = c.weighed_total-sum.ensures.within in
    omega (arith, ints, c.requires)

pub loop-dict-preserved : goal.loop-dict-preserved
loop-dict-preserved c =
    let chain = shared_dicts c.args.dicts.now in
    let i = c.loop-dict.dict-index in
    let keys = c.deref-in-loop-dict.result.now in
    let first = dict_at c.args.dicts.now i c.dict-item.result c.deref.result.now c.loop-dict-test.true c.dict-item.is c.deref.ensures in
    let at = dict_at c.args.dicts.now i c.dict-item.result keys c.loop-dict-test.true c.dict-item.is c.deref-in-loop-dict.ensures in
    let all = end_to_end-within (shared_dicts c.args.dicts.now) c.loop-dict.dict-index at.0 in
    let size = ap (λ l. length l) at.1 in
    let before = c.loop-dict.invariant.1 in
    let more = c.weighed_total-sum.ensures.within in
    let count = c.min.ensures ∙ ap (λ (n : ℕ). min n (length c.loop-dict.left.now)) (c.len.ensures.len ∙ ap (λ l. length l) (first.1 ∙ sym at.1)) in
    let new : to_z w128 (of_z w128 (to_z w128 c.loop-dict.sum-bits +ℤ to_z w128 (of_z w128 c.weighed_total-sum.result))) ≡ to_z w128 c.loop-dict.sum-bits +ℤ c.weighed_total-sum.result = omega (arith, ints, c.requires) in (
      dict-more chain i c.loop-dict.left.now c.split_at.result.0.now c.split_at.result.1.now c.min.result keys _ c.weighed_total-sum.result _ _ at.0 at.1 count c.split_at.ensures.front c.split_at.ensures.back c.weighed_total-sum.ensures.sum new c.loop-dict.invariant.0,
      IsWithin-sum 79228162514264337593543950336 (length (end_to_end (take i chain))) (length keys) (length (end_to_end (take (i + 1) chain))) _ _ _ c.loop-dict.invariant.1 c.weighed_total-sum.ensures.within new
          (ap (λ l. length l) (end_to_end-more chain i at.0) ∙ length-append (end_to_end (take i chain)) (get_or chain i []) ∙ ap (λ l. length (end_to_end (take i chain)) + length l) (sym at.1)),
    )

pub returns-clause-sum : goal.returns-clause-sum
returns-clause-sum c =
    dicts-end (shared_dicts c.args.dicts.now) c.loop-dict.dict-index c.loop-dict.left.now _ _ (omega (arith, length-map c.args.dicts.now (λ dict. arc_value dict))) c.loop-dict.invariant.0
