use Rattle.std.proofs.Common.{◌∙◌, ap}
use Rattle.ut_main.specs.Parts.{PartValue}
use Rattle.ut_table.proofs.ReadLemmas.{closed-pending}
use Rattle.ut_table.proofs.StageLemmas.{row-fits, l1-there, l1-id, l2-there, l2-id, closed-of, closed-there, closed-id, main-there, part-there, part-id}
use Rattle.ut_table.proofs.table.Table.row_id.Goals as goal

pub row-requires : goal.row-requires
row-requires c = l1-there c.stages-stages.ensures c.args.place c.in-L1.i c.in-L1.is c.requires

pub row_id-requires : goal.row_id-requires
row_id-requires c = l2-there c.stages-stages.ensures c.args.place c.in-L2.i c.in-L2.is c.requires

pub row_id-requires-in-Closed : goal.row_id-requires-in-Closed
row_id-requires-in-Closed c =
    let lent = c.stages-stages.ensures in
    let q = closed-pending lent.kept lent.view c.args.place c.in-Closed.i c.in-Closed.is c.requires in
    closed-there lent c.args.place c.in-Closed.i q.0 c.unwrap_or.result.now c.in-Closed.is q.1 (ap (λ l. l.now) c.unwrap_or.ensures ∙ closed-of (λ l. l.now) c.stages-stages.result.closed _ lent.table.pending q.0 lent.closed q.1) c.requires

pub part-requires : goal.part-requires
part-requires c = main-there c.stages-stages.ensures c.args.place c.in-Main.p c.in-Main.i c.in-Main.is c.requires

pub row_id-requires-in-Main : goal.row_id-requires-in-Main
row_id-requires-in-Main c =
    part-there c.stages-stages.ensures c.args.place c.in-Main.p c.in-Main.i c.deref.result.now c.in-Main.is
    (ap (λ (x : PartValue). x.rows) c.deref.ensures ∙ c.part.ensures.rows) (ap (λ (x : PartValue). x.before) c.deref.ensures ∙ c.part.ensures.before) c.requires

pub returns-in-L1-clause-id : goal.returns-in-L1-clause-id
returns-in-L1-clause-id c = l1-id c.stages-stages.ensures c.args.place c.in-L1.i c.row.result.now c.in-L1.is c.row.ensures

pub returns-in-L2-clause-id : goal.returns-in-L2-clause-id
returns-in-L2-clause-id c = l2-id c.stages-stages.ensures c.args.place c.in-L2.i c.row_id.result c.in-L2.is c.row_id.ensures

pub returns-in-Closed-clause-id : goal.returns-in-Closed-clause-id
returns-in-Closed-clause-id c =
    let lent = c.stages-stages.ensures in
    let q = closed-pending lent.kept lent.view c.args.place c.in-Closed.i c.in-Closed.is c.requires in
    closed-id lent c.args.place c.in-Closed.i c.row_id-in-Closed.result q.0 c.unwrap_or.result.now c.in-Closed.is q.1 (ap (λ l. l.now) c.unwrap_or.ensures ∙ closed-of (λ l. l.now) c.stages-stages.result.closed _ lent.table.pending q.0 lent.closed q.1)
    c.row_id-in-Closed.ensures

pub returns-in-Main-clause-id : goal.returns-in-Main-clause-id
returns-in-Main-clause-id c =
    part-id c.stages-stages.ensures c.args.place c.in-Main.p c.in-Main.i c.row_id-in-Main.result c.deref.result.now c.in-Main.is
    (ap (λ (x : PartValue). x.rows) c.deref.ensures ∙ c.part.ensures.rows) c.row_id-in-Main.ensures

pub returns-in-L1-clause-fits : goal.returns-in-L1-clause-fits
returns-in-L1-clause-fits c = λ row at. (row-fits c.stages-stages.ensures c.args.place row at).fits

pub returns-in-L2-clause-fits : goal.returns-in-L2-clause-fits
returns-in-L2-clause-fits c = λ row at. (row-fits c.stages-stages.ensures c.args.place row at).fits

pub returns-in-Closed-clause-fits : goal.returns-in-Closed-clause-fits
returns-in-Closed-clause-fits c = λ row at. (row-fits c.stages-stages.ensures c.args.place row at).fits

pub returns-in-Main-clause-fits : goal.returns-in-Main-clause-fits
returns-in-Main-clause-fits c = λ row at. (row-fits c.stages-stages.ensures c.args.place row at).fits
