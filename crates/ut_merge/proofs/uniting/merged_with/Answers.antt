use Rattle.std.proofs.Common.{◌∙◌, List, Bool, true, replicate, ap, subst}
use Rattle.rayon.proofs.ListFacts.{IfOk-then}
use Rattle.ut_dictmerge.specs.Merge.{IsMerge}
use Rattle.ut_merge.proofs.uniting.merged_with.Goals as goal

pub returns : goal.returns
returns g c =
    let keys = c.args.keys.now in
    let all = c.as_slice.ensures.value ∙ c.in_ok-all.ensures.items_if_clones_equal (λ y e. e) ∙ ap (λ n. replicate n true) c.len.ensures.len in
    IfOk-then c.merge.result _ _ c.merge.ensures (λ m merged.
    subst (λ (l : List Bool). IsMerge keys l c.args.dict.now c.args.used.now m.keys m.from_a.items m.from_b.items) all merged)
