use Rattle.std.proofs.Common.{◌∙◌, ◌∷◌, [], refl}
use Rattle.ut_staged.specs.Staged.{entered_l1, stamped_row}
use Rattle.ut_staged.specs.Staging.{written}
use Rattle.ut_change.specs.Entering.{insert_of}
use Rattle.ut_tables.specs.contracts.rows.Rows.{the_view}
use Rattle.ut_tables.proofs.IndexLemmas.{changed_to, read_is}
use Rattle.ut_tables.proofs.WorkLemmas.{enters_few, enters_fits}
use Rattle.ut_tables.proofs.rows.Rows.enter.Goals as goal

pub push-requires-clause-fits : goal.push-requires-clause-fits
push-requires-clause-fits c =
    let can = c.requires.can in
    let here = read_is (the_view c.self.inside) _ c.self.inside.stages.items c.args.place c.index_mut.result.now c.index_mut.result.now c.self.view_is refl c.index_mut.ensures.value can.table can.at in
    enters_fits can.table c.index_mut.result.now.stages c.args.row c.begun-row.result.0 here c.begun-row.ensures.row can.has

pub push-requires-clause-few : goal.push-requires-clause-few
push-requires-clause-few c =
    let can = c.requires.can in
    let here = read_is (the_view c.self.inside) _ c.self.inside.stages.items c.args.place c.index_mut.result.now c.index_mut.result.now c.self.view_is refl c.index_mut.ensures.value can.table can.at in
    enters_few can.table c.index_mut.result.now.stages c.args.row here can.has

pub returns : goal.returns
returns c =
    changed_to (the_view c.self.inside) _ c.self.inside.stages.items c.args.place c.index_mut.result.now c.push.new.self c.self.view_is refl c.index_mut.ensures.value
    (written c.args.number (insert_of c.args.row ∷ []) [])
    (c.push.ensures.stages ∙ (λ i. entered_l1 (stamped_row (c.begun-row.ensures.stamp i) (c.begun-row.ensures.row i)) c.index_mut.result.now.stages))
