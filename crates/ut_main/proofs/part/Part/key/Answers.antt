use Rattle.std.proofs.Common.{◌∙◌, ◌<◌, [], get_or, sym, ap, subst}
use Rattle.ut_main.proofs.PartLemmas.{column-of}
use Rattle.ut_main.proofs.part.Part.key.Goals as goal

pub key-requires : goal.key-requires
key-requires g c =
    let q = column-of c.self.inside.ids.items c.self.inside.columns.items c.args.self.now c.args.column c.index.result.now c.self.invariant c.self.view_is c.requires.column c.index.ensures in
    subst (λ n. c.args.i < n) (sym q.length) c.requires.place

pub returns-clause-key : goal.returns-clause-key
returns-clause-key g c =
    let q = column-of c.self.inside.ids.items c.self.inside.columns.items c.args.self.now c.args.column c.index.result.now c.self.invariant c.self.view_is c.requires.column c.index.ensures in
    c.key.ensures.key ∙ ap (λ cells. get_or cells c.args.i []) q.cells
