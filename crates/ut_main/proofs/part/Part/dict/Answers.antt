use Rattle.std.proofs.Common.{◌∙◌}
use Rattle.ut_own.specs.Own.{own_dict}
use Rattle.ut_prefix.specs.Chain.{end_to_end}
use Rattle.ut_main.proofs.PartLemmas.{column-of}
use Rattle.ut_main.proofs.part.Part.dict.Goals as goal

pub returns : goal.returns
returns c =
    let q = column-of c.self.inside.ids.items c.self.inside.columns.items c.args.self.now c.args.column c.index.result.now c.self.invariant c.self.view_is c.requires c.index.ensures in
    c.dict.ensures ∙ (λ i. own_dict (end_to_end (q.before i)) (q.cells i))
