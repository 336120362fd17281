use Rattle.std.proofs.Common.{◌∙◌, sym, arith}
use Rattle.ut_scan.specs.Probes.{finds}
use Rattle.ut_scan.proofs.CountLemmas.{one-counted, none-counted}
use Rattle.ut_scan.proofs.delta_count.count_all.Goals as goal
use Rattle.ut_scan.proofs.delta_count.count_all.Goals.{then-finds, else-finds}

pub loop-i-preserved : goal.loop-i-preserved
loop-i-preserved c =
    let test = finds c.args.probe.now in
    let counted = c.loop-i.invariant.counted in
    let within = c.loop-i.invariant.within in
    elim c.if-finds.branch [
      | then-finds w ↦ record {
        counted = w.count-is ∙ one-counted test c.loop-i.i c.loop-i.count counted (sym c.finds.ensures ∙ w.if-finds.true);
        within = omega (arith, w.count-is, within);
      }
      | else-finds w ↦ record {
        counted = w.count-is ∙ none-counted test c.loop-i.i c.loop-i.count counted (sym c.finds.ensures ∙ w.if-finds.false);
        within = omega (arith, w.count-is, within);
      }
    ]
