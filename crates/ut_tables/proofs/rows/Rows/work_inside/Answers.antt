use Rattle.std.proofs.Common.{◌∙◌, ◌∷◌, [], map, refl, sym, ap, subst, arith, slice_get, slice_set}
use Rattle.std.proofs.lemmas.Result.{on_ok_weaker}
use Rattle.ut_plain.specs.Rows.{inserts_of}
use Rattle.ut_change.specs.Bulks.{bulk_rows}
use Rattle.ut_change.specs.Entering.{insert_of}
use Rattle.ut_change.specs.Writes.{CanWrite}
use Rattle.ut_staged.specs.Staged.{begun_row, entered_l1, entered_l2, stamped_row}
use Rattle.ut_staged.specs.Staging.{written}
use Rattle.ut_table.specs.Finds.{hits_of}
use Rattle.ut_tables.specs.contracts.rows.Rows.{the_view}
use Rattle.ut_tables.specs.declared.work.Changes.{Changes}
use Rattle.ut_tables.specs.declared.work.Changes.TheVariants.{Enters, Writes, Loads}
use Rattle.ut_tables.specs.Changed.{Changed}
use Rattle.ut_tables.specs.Rows.{HasTable, Rows}
use Rattle.ut_tables.specs.Works.{ops_in, worked}
use Rattle.ut_tables.proofs.IndexLemmas.{changed_to, place_within, read_is, stages_in}
use Rattle.ut_tables.proofs.LoadLemmas.{can_take_there}
use Rattle.ut_tables.proofs.WorkLemmas.{can_write, changed_as, enters_few, enters_fits, worked_by, worked_loads}
use Rattle.ut_tables.proofs.rows.Rows.work_inside.Goals as goal

pub index_mut-requires : goal.index_mut-requires
index_mut-requires c =
    let at = ap (λ (r : Rows). slice_get r.staged c.args.work.place) c.room.ensures.rows ∙ c.requires.can.at in
    let within = place_within (the_view c.self.inside) c.room.new.self c.self.inside.stages.items c.args.work.place c.requires.can.table c.self.view_is refl at in
    omega (arith, within)

pub push-requires-clause-fits : goal.push-requires-clause-fits
push-requires-clause-fits c =
    let can = can_write c.args.self.now.rows c.args.work (Enters c.in-Enters.row) c.in-Enters.is c.requires.can in
    let here = read_is (the_view c.self.inside) _ c.self.inside.stages.items c.args.work.place c.index_mut.result.now c.index_mut.result.now c.self.view_is refl c.index_mut.ensures.value can.table
    (ap (λ (r : Rows). slice_get r.staged c.args.work.place) c.room.ensures.rows ∙ can.at) in
    enters_fits can.table c.index_mut.result.now.stages c.in-Enters.row c.begun-row.result.0 here c.begun-row.ensures.row can.has

pub push-requires-clause-few : goal.push-requires-clause-few
push-requires-clause-few c =
    let can = can_write c.args.self.now.rows c.args.work (Enters c.in-Enters.row) c.in-Enters.is c.requires.can in
    let here = read_is (the_view c.self.inside) _ c.self.inside.stages.items c.args.work.place c.index_mut.result.now c.index_mut.result.now c.self.view_is refl c.index_mut.ensures.value can.table
    (ap (λ (r : Rows). slice_get r.staged c.args.work.place) c.room.ensures.rows ∙ can.at) in
    enters_few can.table c.index_mut.result.now.stages c.in-Enters.row here can.has

pub returns-in_ok-room-in-Enters-clause-ok : goal.returns-in_ok-room-in-Enters-clause-ok
returns-in_ok-room-in-Enters-clause-ok c =
    let n = c.args.work.place in
    let row = c.in-Enters.row in
    let after = written c.args.number (insert_of row ∷ []) [] in
    let new : Rows = record (the_view c.self.inside).rows { staged = stages_in (slice_set c.self.inside.stages.items n c.push.new.self) } in
    changed_as c.args.self.now.rows new n after (worked c.args.work c.args.number) (worked_by c.args.work (Enters row) c.in-Enters.is c.args.number)
    (subst (λ (r : Rows). Changed r n after new) c.room.ensures.rows
    (changed_to (the_view c.self.inside) _ c.self.inside.stages.items n c.index_mut.result.now c.push.new.self c.self.view_is refl c.index_mut.ensures.value after
    (c.push.ensures.stages ∙ (λ i. entered_l1 (stamped_row (c.begun-row.ensures.stamp i) (c.begun-row.ensures.row i)) c.index_mut.result.now.stages))))

pub write_all-requires-clause-can : goal.write_all-requires-clause-can
write_all-requires-clause-can c =
    subst (λ (r : Rows). HasTable r c.args.work.place (λ s. CanWrite s (hits_of c.in-Writes.hits.now) c.in-Writes.ops.items)) (sym c.room-in-Writes.ensures.rows)
    (can_write c.args.self.now.rows c.args.work (Writes c.in-Writes.hits c.in-Writes.ops) c.in-Writes.is c.requires.can)

pub write_all-requires-clause-room : goal.write_all-requires-clause-room
write_all-requires-clause-room c =
    let count = c.requires.count ∙ ap (λ (x : Changes). inserts_of (ops_in x)) c.in-Writes.is in
    let room = c.in_ok-room-in-Writes.ensures.ok in omega (arith, count, room)

pub returns-in_ok-room-in-Writes-clause-ok : goal.returns-in_ok-room-in-Writes-clause-ok
returns-in_ok-room-in-Writes-clause-ok c =
    let n = c.args.work.place in
    let after = written c.args.number c.in-Writes.ops.items (hits_of c.in-Writes.hits.now) in
    changed_as c.args.self.now.rows c.write_all.new.self.rows n after (worked c.args.work c.args.number) (worked_by c.args.work (Writes c.in-Writes.hits c.in-Writes.ops) c.in-Writes.is c.args.number)
    (subst (λ (r : Rows). Changed r n after c.write_all.new.self.rows) c.room-in-Writes.ensures.rows c.write_all.ensures)

pub load-requires-clause-can : goal.load-requires-clause-can
load-requires-clause-can c = (c.requires.loads c.in-Loads.bulk c.in-Loads.is).0

pub load-requires-clause-takes : goal.load-requires-clause-takes
load-requires-clause-takes c =
    can_take_there c.args.self.now.rows c.args.work.place [] c.in-Loads.bulk (can_write c.args.self.now.rows c.args.work (Loads c.in-Loads.bulk) c.in-Loads.is c.requires.can)
    (c.requires.loads c.in-Loads.bulk c.in-Loads.is).1

pub returns-in-Loads-clause-ok : goal.returns-in-Loads-clause-ok
returns-in-Loads-clause-ok c =
    let b = c.in-Loads.bulk in
    on_ok_weaker c.load.result
    (changed_as c.args.self.now.rows c.load.new.self.rows c.args.work.place (entered_l2 (map (begun_row c.args.number) (bulk_rows b))) (worked c.args.work c.args.number) (worked_loads c.args.work b c.in-Loads.is c.args.number))
    c.load.ensures.ok
