use Rattle.std.proofs.Common.{◌∙◌, ◌++◌, [], ◌∷◌, List, ℕ, length, sym, ap}
use Rattle.std.proofs.lemmas.List.{map_more}
use Rattle.ut_prefix.specs.Chain.{shared_dicts}
use Rattle.ut_prefix.proofs.ChainLemmas.{dict_at}
use Rattle.ut_merge.proofs.arranging.counts_of.Goals as goal

pub loop-dict-preserved : goal.loop-dict-preserved
loop-dict-preserved c =
    let dicts = shared_dicts c.args.dicts.now in
    let i = c.loop-dict.dict-index in
    let at = dict_at c.args.dicts.now i c.dict-item.result c.deref.result.now c.loop-dict-test.true c.dict-item.is c.deref.ensures in
    c.in_ok-push.ensures.items ∙ (λ k. c.loop-dict.invariant k ++ (c.len.ensures.len ∙ ap (λ (l : List (List ℕ)). length l) at.1) k ∷ [])
    ∙ sym (map_more (λ (l : List (List ℕ)). length l) dicts i [] at.0)
