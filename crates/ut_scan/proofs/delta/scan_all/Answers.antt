use Rattle.std.proofs.Common.{◌∙◌, ap, sym}
use Rattle.ut_scan.specs.Finds.{found_at}
use Rattle.ut_scan.specs.Probes.{finds, place_in}
use Rattle.ut_scan.proofs.FindLemmas.{one-found, none-found}
use Rattle.ut_scan.proofs.delta.scan_all.Goals as goal
use Rattle.ut_scan.proofs.delta.scan_all.Goals.{then-finds+in_ok-push, else-finds}

pub loop-i-preserved : goal.loop-i-preserved
loop-i-preserved c =
    let found = found_at (place_in c.args.probe.now.stage) c.args.probe.now.l2.now.rows in
    let test = finds c.args.probe.now in
    elim c.if-finds.branch [
      | then-finds+in_ok-push w ↦ ap (λ v. v.items) w.out-is ∙ w.in_ok-push.ensures.items ∙ one-found found test c.loop-i.i c.loop-i.out.items c.args.out.now.items c.loop-i.invariant w.found.result w.found.ensures (sym c.finds.ensures ∙ w.if-finds.true)
      | else-finds w ↦ ap (λ v. v.items) w.out-is ∙ none-found found test c.loop-i.i c.loop-i.out.items c.args.out.now.items c.loop-i.invariant (sym c.finds.ensures ∙ w.if-finds.false)
    ]
