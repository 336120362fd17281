use Rattle.std.proofs.Common.{◌∙◌, ap, length, replicate}
use Rattle.ut_shown.specs.Shown.{eyes, shown_stamp}
use Rattle.ut_shown.proofs.FilledLemmas.{shown-alike}
use Rattle.ut_shown.proofs.parts.part_stamps.Goals as goal

pub returns-in_ok-alike-in-Some : goal.returns-in_ok-alike-in-Some
returns-in_ok-alike-in-Some c =
    c.in_ok-alike-in-Some.ensures ∙ (λ i. replicate (c.len.ensures i) ((c.stamp_of.ensures ∙ ap shown_stamp c.sees-seen.ensures) i))
    ∙ shown-alike (eyes c.args.snapshot.fates.now c.args.snapshot.at c.args.snapshot.own) (length c.args.stamps.now) c.in-Some.stamp c.args.stamps.now (rw c.in-Some.is at c.joint.ensures)
