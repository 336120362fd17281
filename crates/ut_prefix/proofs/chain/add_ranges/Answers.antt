use Rattle.std.proofs.Common.{◌≡◌, ◌+◌, [], ℕ, length, length-append, take, get_or, arith, ap, ◌∙◌, subst}
use Rattle.ut_prefix.specs.Chain.{shared_dicts, end_to_end}
use Rattle.ut_prefix.specs.Lookup.{IsSplit}
use Rattle.ut_prefix.proofs.ChainLemmas.{dict_at, end_to_end-within, end_to_end-more, steps-within, steps-more, AddsRanges-more}
use Rattle.ut_prefix.proofs.chain.add_ranges.Goals as goal

pub overflow_add-end : goal.overflow_add-end
overflow_add-end g c =
    let at = dict_at c.args.dicts.now c.loop-dict.dict-index c.dict-item.result c.deref-in-loop-dict.result.now c.loop-dict-test.true c.dict-item.is c.deref-in-loop-dict.ensures in
    let all = end_to_end-within (shared_dicts c.args.dicts.now) c.loop-dict.dict-index at.0 in
    omega (arith, c.len.ensures.len, ap (λ l. length l) at.1, all, c.loop-dict.invariant.0, c.requires)

pub overflow_add-start : goal.overflow_add-start
overflow_add-start g c =
    let at = dict_at c.args.dicts.now c.loop-dict.dict-index c.dict-item.result c.deref.result.now c.loop-dict-test.true c.dict-item.is c.deref.ensures in
    let all = end_to_end-within (shared_dicts c.args.dicts.now) c.loop-dict.dict-index at.0 in
    omega (arith, c.split-split.ensures.split.within, c.split-split.ensures.split.ordered, ap (λ l. length l) at.1, all, c.loop-dict.invariant.0, c.requires)

pub overflow_add-start-in-loop-dict : goal.overflow_add-start-in-loop-dict
overflow_add-start-in-loop-dict g c =
    let at = dict_at c.args.dicts.now c.loop-dict.dict-index c.dict-item.result c.deref.result.now c.loop-dict-test.true c.dict-item.is c.deref.ensures in
    let all = end_to_end-within (shared_dicts c.args.dicts.now) c.loop-dict.dict-index at.0 in
    omega (arith, c.split-split.ensures.split.within, ap (λ l. length l) at.1, all, c.loop-dict.invariant.0, c.requires)

pub returns-in_err-push_ranges-clause-cost : goal.returns-in_err-push_ranges-clause-cost
returns-in_err-push_ranges-clause-cost g c =
    let at = dict_at c.args.dicts.now c.loop-dict.dict-index c.dict-item.result c.deref.result.now c.loop-dict-test.true c.dict-item.is c.deref.ensures in
    steps-within (shared_dicts c.args.dicts.now) c.loop-dict.dict-index c.deref.result.now c.args.steps.now c.loop-dict.steps c.split-split.new.steps at.0 at.1 c.loop-dict.invariant.2 c.split-split.ensures.cost

pub loop-dict-preserved : goal.loop-dict-preserved
loop-dict-preserved g c =
    let chain = shared_dicts c.args.dicts.now in
    let i = c.loop-dict.dict-index in
    let at = dict_at c.args.dicts.now i c.dict-item.result c.deref.result.now c.loop-dict-test.true c.dict-item.is c.deref.ensures in
    let second = dict_at c.args.dicts.now i c.dict-item.result c.deref-in-loop-dict.result.now c.loop-dict-test.true c.dict-item.is c.deref-in-loop-dict.ensures in
    let size : c.len.result ≡ length (get_or chain i []) = c.len.ensures.len ∙ ap (λ l. length l) second.1 in
    let split = subst (λ l. IsSplit l c.args.key.now c.split-split.result.below c.split-split.result.above) at.1 c.split-split.ensures.split in (
      omega (arith, size, c.loop-dict.invariant.0, ap (λ l. length l) (end_to_end-more chain i at.0), length-append (end_to_end (take i chain)) (get_or chain i [])),
      AddsRanges-more c.args.op c.args.key.now chain i c.args.out.now.items c.loop-dict.out.items c.push_ranges.new.out.items c.loop-dict.start c.split-split.result.below c.split-split.result.above (c.loop-dict.start + c.len.result) at.0 split c.loop-dict.invariant.0 (ap (λ (k : ℕ). c.loop-dict.start + k) size) c.loop-dict.invariant.1 c.in_ok-push_ranges.ensures.ok,
      steps-more chain i c.deref.result.now c.args.steps.now c.loop-dict.steps c.split-split.new.steps at.0 at.1 c.loop-dict.invariant.2 c.split-split.ensures.cost,
    )
