use Rattle.std.proofs.Common.{◌∙◌, ap}
use Rattle.ut_main.specs.Parts.{PartValue}
use Rattle.ut_table.specs.Contents.{TableValue}
use Rattle.ut_table.proofs.ReadLemmas.{l1-within, l1-row, l1-values, l2-row, l2-values, closed-pending, closed-row, closed-values, part-within, part-row, part-values}
use Rattle.ut_table.proofs.StageLemmas.{closed-of}
use Rattle.ut_table.proofs.table.Table.standing.Goals as goal

pub row-requires : goal.row-requires
row-requires c = l1-within c.self.invariant (ap (λ (v : TableValue). v.stages) c.self.view_is) c.args.place c.in-L1.i c.in-L1.is c.requires

pub part-requires : goal.part-requires
part-requires c = part-within c.self.invariant (ap (λ (v : TableValue). v.stages) c.self.view_is) c.args.place c.in-Main.p c.in-Main.i c.in-Main.is c.requires

pub returns-in-L1-clause-stands : goal.returns-in-L1-clause-stands
returns-in-L1-clause-stands c = l1-row c.self.invariant (ap (λ (v : TableValue). v.stages) c.self.view_is) c.args.place c.in-L1.i c.row.result.now c.in-L1.is c.requires c.row.ensures

pub returns-in-L1-clause-values : goal.returns-in-L1-clause-values
returns-in-L1-clause-values c = λ row e. l1-values c.self.invariant (ap (λ (v : TableValue). v.stages) c.self.view_is) c.args.place c.in-L1.i c.row.result.now row c.in-L1.is c.row.ensures e

pub returns-in-L2-clause-stands : goal.returns-in-L2-clause-stands
returns-in-L2-clause-stands c = l2-row c.self.invariant (ap (λ (v : TableValue). v.stages) c.self.view_is) c.args.place c.in-L2.i c.deref.result.now c.in-L2.is c.deref.ensures c.requires

pub returns-in-L2-clause-values : goal.returns-in-L2-clause-values
returns-in-L2-clause-values c = λ row e. l2-values c.self.invariant (ap (λ (v : TableValue). v.stages) c.self.view_is) c.args.place c.in-L2.i c.deref.result.now row c.in-L2.is c.deref.ensures e

pub returns-in-Closed-clause-stands : goal.returns-in-Closed-clause-stands
returns-in-Closed-clause-stands c =
    let view = ap (λ (v : TableValue). v.stages) c.self.view_is in
    let q = closed-pending c.self.invariant view c.args.place c.in-Closed.i c.in-Closed.is c.requires in
    closed-row c.self.invariant view c.args.place c.in-Closed.i q.0 c.unwrap_or.result.now c.in-Closed.is q.1 (ap (λ l. l.now) c.unwrap_or.ensures ∙ closed-of (λ l. l.now) c.closed_stage.result _ c.self.inside.pending q.0 c.closed_stage.ensures q.1)
    c.requires

pub returns-in-Closed-clause-values : goal.returns-in-Closed-clause-values
returns-in-Closed-clause-values c = λ row e.
    let view = ap (λ (v : TableValue). v.stages) c.self.view_is in
    let q = closed-pending c.self.invariant view c.args.place c.in-Closed.i c.in-Closed.is c.requires in
    closed-values c.self.invariant view c.args.place c.in-Closed.i q.0 c.unwrap_or.result.now row c.in-Closed.is q.1 (ap (λ l. l.now) c.unwrap_or.ensures ∙ closed-of (λ l. l.now) c.closed_stage.result _ c.self.inside.pending q.0 c.closed_stage.ensures q.1)
    e

pub returns-in-Main-clause-stands : goal.returns-in-Main-clause-stands
returns-in-Main-clause-stands c =
    part-row c.self.invariant (ap (λ (v : TableValue). v.stages) c.self.view_is) c.args.place c.in-Main.p c.in-Main.i c.deref-in-Main.result.now c.in-Main.is
    (ap (λ (x : PartValue). x.rows) c.deref-in-Main.ensures ∙ c.part.ensures.rows) (ap (λ (x : PartValue). x.before) c.deref-in-Main.ensures ∙ c.part.ensures.before) c.requires

pub returns-in-Main-clause-values : goal.returns-in-Main-clause-values
returns-in-Main-clause-values c = λ row e.
    part-values c.self.invariant (ap (λ (v : TableValue). v.stages) c.self.view_is) c.args.place c.in-Main.p c.in-Main.i c.deref-in-Main.result.now row c.in-Main.is
    (ap (λ (x : PartValue). x.rows) c.deref-in-Main.ensures ∙ c.part.ensures.rows) e
