use Rattle.std.proofs.Common.{◌∙◌, ◌<◌, length, sym, ap, arith, rules, get_or}
use Rattle.ut_l2.specs.KeyRows.{no_row}
use Rattle.ut_l2.proofs.DeltaLemmas.{rows-length, row-get, get_or-any}
use Rattle.ut_l2.proofs.l2.L2.row_id.Goals as goal

pub index-requires : goal.index-requires
index-requires c =
    let n = sym (rows-length c.self.inside.ids.items c.self.inside.columns.items) ∙ ap (λ d. length d.rows) c.self.view_is in
    let lt : c.args.i < length c.self.inside.ids.items = omega (arith, n, c.requires) in
    search (rules, lt)

pub returns : goal.returns
returns c =
    let n = sym (rows-length c.self.inside.ids.items c.self.inside.columns.items) ∙ ap (λ d. length d.rows) c.self.view_is in
    let lt : c.args.i < length c.self.inside.ids.items = omega (arith, n, c.requires) in
    c.index.ensures ∙ get_or-any c.self.inside.ids.items c.args.i c.index.result.now 0 lt ∙ sym (ap (λ r. r.id) (row-get c.self.inside.ids.items c.self.inside.columns.items c.args.i lt)) ∙ ap (λ d. (get_or d.rows c.args.i no_row).id) c.self.view_is
