use Rattle.std.proofs.Common.{◌∙◌, sym, arith}
use Rattle.ut_scan.specs.Probes.{is_seen}
use Rattle.ut_scan.proofs.CountLemmas.{one-counted, none-counted}
use Rattle.ut_scan.proofs.parts.PartProbe.count_each.Goals as goal
use Rattle.ut_scan.proofs.parts.PartProbe.count_each.Goals.{then-sees, else-sees}

pub loop-i-preserved : goal.loop-i-preserved
loop-i-preserved c =
    let test = is_seen c.args.self.now.snapshot.now c.args.self.now.stamps.now in
    let counted = c.loop-i.invariant.counted in
    let within = c.loop-i.invariant.within in
    elim c.if-sees.branch [
      | then-sees w ↦ record {
        counted = w.count-is ∙ one-counted test c.loop-i.i c.loop-i.count counted (sym c.sees.ensures ∙ w.if-sees.true);
        within = omega (arith, w.count-is, within);
      }
      | else-sees w ↦ record {
        counted = w.count-is ∙ none-counted test c.loop-i.i c.loop-i.count counted (sym c.sees.ensures ∙ w.if-sees.false);
        within = omega (arith, w.count-is, within);
      }
    ]
