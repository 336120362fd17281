use Rattle.std.proofs.Common.{◌∙◌}
use Rattle.ut_main.specs.Columns.{vector_of}
use Rattle.ut_main.proofs.PartLemmas.{column-of}
use Rattle.ut_main.proofs.part.Part.codes.Goals as goal

pub returns : goal.returns
returns c =
    let q = column-of c.self.inside.ids.items c.self.inside.columns.items c.args.self.now c.args.column c.index.result.now c.self.invariant c.self.view_is c.requires c.index.ensures in
    c.codes.ensures ∙ (λ i. vector_of (q.before i) (q.cells i))
