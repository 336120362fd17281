use Rattle.std.proofs.Common.{◌<◌, ℕ, [], length, length-append, take, get_or, arith, sym, ap, ◌∙◌}
use Rattle.ut_prefix.specs.Chain.{shared_dicts, end_to_end}
use Rattle.ut_prefix.proofs.ChainLemmas.{dict_at, end_to_end-more, end_to_end-reached, get_or-end_to_end}
use Rattle.ut_prefix.proofs.chain.key_in.Goals as goal

pub loop-place-preserved : goal.loop-place-preserved
loop-place-preserved g c =
    let chain = shared_dicts c.args.dicts.now in
    let i = c.loop-place.dict in
    let l = c.index-dicts-dict-in-loop-place in
    let there = end_to_end-reached c.args.dicts.now i c.loop-place.place c.args.code c.loop-place.invariant.0 c.requires in
    let at = dict_at c.args.dicts.now i l.result c.deref-in-loop-place.result.now there l.is c.deref-in-loop-place.ensures in
    let first = dict_at c.args.dicts.now i c.index-dicts-dict.result c.deref.result.now there c.index-dicts-dict.is c.deref.ensures in (
      omega (arith, c.len.ensures.len, c.len-place.ensures.len, ap (λ l. length l) at.1, ap (λ l. length l) first.1, c.loop-place.invariant.0, c.loop-place-test.true, ap (λ l. length l) (end_to_end-more chain i at.0), length-append (end_to_end (take i chain)) (get_or chain i [])),
      c.loop-place.invariant.1,
    )

pub returns-clause-key : goal.returns-clause-key
returns-clause-key g c =
    let chain = shared_dicts c.args.dicts.now in
    let i = c.loop-place.dict in
    let there = end_to_end-reached c.args.dicts.now i c.loop-place.place c.args.code c.loop-place.invariant.0 c.requires in
    let at = dict_at c.args.dicts.now i c.index-dicts-dict.result c.deref.result.now there c.index-dicts-dict.is c.deref.ensures in
    let then = dict_at c.args.dicts.now i c.index-dicts-dict-2.result c.deref-2.result.now there c.index-dicts-dict-2.is c.deref-2.ensures in
    let within : c.loop-place.place < length (get_or chain i []) = omega (arith, ap (λ l. length l) at.1, c.len.ensures.len, c.loop-place-test.false) in
    c.get.ensures.key ∙ ap (λ l. get_or l c.loop-place.place []) then.1 ∙ sym (get_or-end_to_end chain i c.loop-place.place at.0 within)
    ∙ ap (λ (k : ℕ). get_or (end_to_end chain) k []) (sym c.loop-place.invariant.0)
