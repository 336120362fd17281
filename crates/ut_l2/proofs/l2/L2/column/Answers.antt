use Rattle.std.proofs.Common.{◌≡◌, ◌<◌, ◌∙◌, [], length, get_or, ap, arith}
use Rattle.ut_l2.specs.KeyRows.{cells_at}
use Rattle.ut_l2.proofs.DeltaLemmas.{get_or-any, cells-column}
use Rattle.ut_l2.proofs.l2.L2.column.Goals as goal

pub returns : goal.returns
returns c =
    let w : length c.self.inside.columns.items ≡ c.args.self.now.width = ap (λ d. d.width) c.self.view_is in
    let lt : c.args.column < length c.self.inside.columns.items = omega arith in
    c.index.ensures ∙ ap (λ n. get_or c.self.inside.columns.items n c.index.result.now) c.from.ensures ∙ get_or-any c.self.inside.columns.items c.args.column c.index.result.now [] lt ∙ cells-column c.self.inside.ids.items c.self.inside.columns.items c.self.invariant c.args.column lt ∙ ap (λ d. cells_at c.args.column d.rows) c.self.view_is
