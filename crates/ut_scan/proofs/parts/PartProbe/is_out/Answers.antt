use Rattle.std.proofs.Common.{◌∙◌, length, ap, sym}
use Rattle.std.proofs.lemmas.Bool.{eqb-true}
use Rattle.std.proofs.lemmas.List.{nil_from_length}
use Rattle.std.proofs.lemmas.List.Folds.{list_all_at}
use Rattle.ut_bits.specs.Places.{is_in}
use Rattle.ut_scan.specs.declared.coded.CodedPred.{CodedPred}
use Rattle.ut_scan.specs.Coded.{code_at}
use Rattle.ut_scan.proofs.parts.PartProbe.is_out.Goals as goal

pub returns-then-is_empty : goal.returns-then-is_empty
returns-then-is_empty c = λ _ i lt.
    let part = c.args.self.now.part.now in
    let held = λ (q : CodedPred). is_in q.ranges.items (code_at part i q.column) in
    let pred = c.pred-item.result in
    let ranges = c.ranges-in-loop-pred.result.now in
    let none = nil_from_length ranges (eqb-true (length ranges) 0 (sym c.is_empty.ensures ∙ c.if-is_empty.true)) in
    list_all_at held c.args.self.now.coded.now c.loop-pred.pred-index pred c.loop-pred-test.true
    (ap held (sym c.pred-item.is) ∙ sym (c.ranges-in-loop-pred.ensures i lt) ∙ ap (λ l. is_in l (code_at part i pred.column)) none)
