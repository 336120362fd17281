use Rattle.std.proofs.Common.{◌∙◌, ◌<◌, length, map, sym, ap, arith, rules, get_or}
use Rattle.std.proofs.lemmas.List.{get_or_default}
use Rattle.ut_l2.specs.KeyRows.{no_row}
use Rattle.ut_l2.proofs.DeltaLemmas.{row-get}
use Rattle.ut_main.specs.Columns.{ColumnValue}
use Rattle.ut_main.specs.Parts.{PartValue}
use Rattle.ut_main.proofs.PartLemmas.{part-length}
use Rattle.ut_main.proofs.part.Part.row_id.Goals as goal

pub index-requires : goal.index-requires
index-requires c =
    let n = part-length c.self.inside.ids.items c.self.inside.columns.items c.self.invariant in
    let lt : c.args.i < length c.self.inside.ids.items = omega (arith, n, ap (λ (p : PartValue). length p.rows) c.self.view_is, c.requires) in
    search (rules, lt)

pub returns : goal.returns
returns c =
    let n = part-length c.self.inside.ids.items c.self.inside.columns.items c.self.invariant in
    let lt : c.args.i < length c.self.inside.ids.items = omega (arith, n, ap (λ (p : PartValue). length p.rows) c.self.view_is, c.requires) in
    c.index.ensures ∙ get_or_default c.self.inside.ids.items c.args.i c.index.result.now 0 lt
    ∙ sym (ap (λ r. r.id) (row-get c.self.inside.ids.items (map (λ (x : ColumnValue). x.cells) c.self.inside.columns.items) c.args.i lt))
    ∙ ap (λ (p : PartValue). (get_or p.rows c.args.i no_row).id) c.self.view_is
