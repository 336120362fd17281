use Rattle.std.proofs.Common.{◌∙◌, ap, sym}
use Rattle.ut_stamps.specs.declared.place.Place.TheVariants.{Main}
use Rattle.ut_scan.specs.Probes.{is_seen}
use Rattle.ut_scan.specs.Finds.{found_at}
use Rattle.ut_scan.proofs.FindLemmas.{one-found, none-found}
use Rattle.ut_scan.proofs.parts.PartProbe.append_all.Goals as goal
use Rattle.ut_scan.proofs.parts.PartProbe.append_all.Goals.{then-sees+in_ok-push, else-sees}

pub loop-i-preserved : goal.loop-i-preserved
loop-i-preserved c =
    let found = found_at (Main c.args.self.now.number) c.args.self.now.part.now.rows in
    let test = is_seen c.args.self.now.snapshot.now c.args.self.now.stamps.now in
    elim c.if-sees.branch [
      | then-sees+in_ok-push w ↦ ap (λ v. v.items) w.out-is ∙ w.in_ok-push.ensures.items ∙ one-found found test c.loop-i.i c.loop-i.out.items c.args.out.now.items c.loop-i.invariant w.found.result w.found.ensures (sym c.sees.ensures ∙ w.if-sees.true)
      | else-sees w ↦ ap (λ v. v.items) w.out-is ∙ none-found found test c.loop-i.i c.loop-i.out.items c.args.out.now.items c.loop-i.invariant (sym c.sees.ensures ∙ w.if-sees.false)
    ]
