use Rattle.std.proofs.Common.{ap, ◌∙◌, arith}
use Rattle.std.specs.Prelude.{slice_get}
use Rattle.ut_main.specs.Parts.{PartValue}
use Rattle.ut_table.specs.Contents.{TableValue}
use Rattle.ut_table.specs.Coded.{coded_values}
use Rattle.ut_table.proofs.ReadLemmas.{l2-row, closed-row, part-within, part-row}
use Rattle.ut_table.proofs.CodedLemmas.{main-value, l2-value, closed-value}
use Rattle.ut_table.proofs.table.Table.code.Goals as goal

pub delta_code-requires-clause-place : goal.delta_code-requires-clause-place
delta_code-requires-clause-place c = (l2-row c.self.invariant (ap (λ (v : TableValue). v.stages) c.self.view_is) c.args.place c.in-L2.i c.deref.result.now c.in-L2.is c.deref.ensures c.requires.there).place

pub delta_code-requires-in-Some-clause-place : goal.delta_code-requires-in-Some-clause-place
delta_code-requires-in-Some-clause-place c = (closed-row c.self.invariant (ap (λ (v : TableValue). v.stages) c.self.view_is) c.args.place c.in-Closed.i c.in-Some.pending c.closed.result.now c.in-Closed.is c.in-Some.is c.closed.ensures c.requires.there).place

pub part-requires : goal.part-requires
part-requires c = part-within c.self.invariant (ap (λ (v : TableValue). v.stages) c.self.view_is) c.args.place c.in-Main.p c.in-Main.i c.in-Main.is c.requires.there

pub part_code-requires-clause-column : goal.part_code-requires-clause-column
part_code-requires-clause-column c =
    let holds = part-row c.self.invariant (ap (λ (v : TableValue). v.stages) c.self.view_is) c.args.place c.in-Main.p c.in-Main.i c.deref-in-Main.result.now c.in-Main.is
    (ap (λ (x : PartValue). x.rows) c.deref-in-Main.ensures ∙ c.part.ensures.rows) (ap (λ (x : PartValue). x.before) c.deref-in-Main.ensures ∙ c.part.ensures.before) c.requires.there in
    omega (arith, holds.wide, c.requires.column)

pub part_code-requires-clause-narrow : goal.part_code-requires-clause-narrow
part_code-requires-clause-narrow c =
    let holds = part-row c.self.invariant (ap (λ (v : TableValue). v.stages) c.self.view_is) c.args.place c.in-Main.p c.in-Main.i c.deref-in-Main.result.now c.in-Main.is
    (ap (λ (x : PartValue). x.rows) c.deref-in-Main.ensures ∙ c.part.ensures.rows) (ap (λ (x : PartValue). x.before) c.deref-in-Main.ensures ∙ c.part.ensures.before) c.requires.there in
    omega (arith, holds.wide, holds.narrow)

pub part_code-requires-clause-place : goal.part_code-requires-clause-place
part_code-requires-clause-place c =
    let holds = part-row c.self.invariant (ap (λ (v : TableValue). v.stages) c.self.view_is) c.args.place c.in-Main.p c.in-Main.i c.deref-in-Main.result.now c.in-Main.is
    (ap (λ (x : PartValue). x.rows) c.deref-in-Main.ensures ∙ c.part.ensures.rows) (ap (λ (x : PartValue). x.before) c.deref-in-Main.ensures ∙ c.part.ensures.before) c.requires.there in
    holds.place

pub returns-in-L2-clause-value : goal.returns-in-L2-clause-value
returns-in-L2-clause-value c = λ row e.
    l2-value c.self.invariant (ap (λ (v : TableValue). v.stages) c.self.view_is) c.args.place c.in-L2.i c.args.column c.main_codes.result c.delta_code.result c.deref.result.now row c.in-L2.is c.deref.ensures
    c.main_codes.ensures.codes c.requires.column e c.delta_code.ensures.key

pub returns-in-Some-clause-value : goal.returns-in-Some-clause-value
returns-in-Some-clause-value c = λ row e.
    closed-value c.self.invariant (ap (λ (v : TableValue). v.stages) c.self.view_is) c.args.place c.in-Closed.i c.args.column c.open_codes.result c.delta_code-in-Some.result c.in-Some.pending c.closed.result.now row
    c.in-Closed.is c.in-Some.is c.closed.ensures c.open_codes.ensures.codes c.requires.column e c.delta_code-in-Some.ensures.key

pub returns-in-Main-clause-value : goal.returns-in-Main-clause-value
returns-in-Main-clause-value c = λ row e.
    ap (slice_get (coded_values c.args.self.now.stages c.args.column)) c.part_code.ensures.code
    ∙ main-value c.self.invariant (ap (λ (v : TableValue). v.stages) c.self.view_is) c.args.place c.in-Main.p c.in-Main.i c.args.column c.deref-in-Main.result.now row c.in-Main.is
    (ap (λ (x : PartValue). x.rows) c.deref-in-Main.ensures ∙ c.part.ensures.rows) (ap (λ (x : PartValue). x.before) c.deref-in-Main.ensures ∙ c.part.ensures.before) c.requires.column e
