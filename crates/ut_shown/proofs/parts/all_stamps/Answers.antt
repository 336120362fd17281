use Rattle.std.proofs.Common.{◌∙◌, ap, arith}
use Rattle.ut_shown.specs.Shown.{eyes, shown_stamps}
use Rattle.ut_shown.proofs.FilledLemmas.{stamps-more, stamps-all}
use Rattle.ut_shown.proofs.parts.all_stamps.Goals as goal

pub loop-p-preserved : goal.loop-p-preserved
loop-p-preserved c =
    let l = eyes c.args.snapshot.fates.now c.args.snapshot.at c.args.snapshot.own in
    stamps-more c.stages-stages.ensures l c.loop-p.p c.in_ok-stamps.stamps (omega (arith, c.loop-p-test.true, c.parts-p-end.ensures.count))
    (c.in_ok-stamps.ensures ∙ ap (shown_stamps l) c.part.ensures) c.loop-p.shown.items c.push.new.self.items c.loop-p.invariant c.in_ok-push.ensures.items

pub returns : goal.returns
returns c = stamps-all c.stages-stages.ensures (eyes c.args.snapshot.fates.now c.args.snapshot.at c.args.snapshot.own) c.loop-p.p c.loop-p.shown.items (omega (arith, c.loop-p-test.false, c.parts-p-end.ensures.count)) c.loop-p.invariant
