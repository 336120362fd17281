use Rattle.std.proofs.Common.{◌∙◌, sym, arith, ◌≡◌, ◌<◌, ◌&&◌, ℕ, length, ap}
use Rattle.ut_scan.specs.Finds.{meets_at}
use Rattle.ut_scan.specs.Probes.{finds}
use Rattle.ut_scan.proofs.PickLemmas.{mark-tells}
use Rattle.ut_scan.proofs.CountLemmas.{one-counted, none-counted}
use Rattle.ut_scan.proofs.delta_count.count_marked.Goals as goal
use Rattle.ut_scan.proofs.delta_count.count_marked.Goals.{then-is_marked_find, else-is_marked_find}

pub loop-i-preserved : goal.loop-i-preserved
loop-i-preserved c =
    let rows = c.args.probe.now.l2.now.rows in
    let pred = c.args.pred.now in
    let rest = finds c.args.probe.now in
    let i = c.loop-i.i in
    let lr : c.loop-i.i < length c.args.probe.now.l2.now.rows = omega (arith, c.len-i-end.ensures, c.loop-i-test.true) in
    let mark = mark-tells pred rows c.codes-codes.result.now c.args.marks.now i c.requires.marks c.codes-codes.ensures.keys c.codes-codes.ensures.within lr in
    let tells : (meets_at pred rows i && rest i) ≡ c.is_marked_find.result = ap (λ b. b && rest i) (sym mark) ∙ sym c.is_marked_find.ensures in
    let test = λ (k : ℕ). meets_at pred rows k && rest k in
    let counted = c.loop-i.invariant.counted in
    let within = c.loop-i.invariant.within in
    elim c.if-is_marked_find.branch [
      | then-is_marked_find w ↦ record {
        counted = w.count-is ∙ one-counted test c.loop-i.i c.loop-i.count counted (tells ∙ w.if-is_marked_find.true);
        within = omega (arith, w.count-is, within);
      }
      | else-is_marked_find w ↦ record {
        counted = w.count-is ∙ none-counted test c.loop-i.i c.loop-i.count counted (tells ∙ w.if-is_marked_find.false);
        within = omega (arith, w.count-is, within);
      }
    ]
