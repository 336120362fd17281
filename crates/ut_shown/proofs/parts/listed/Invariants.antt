use Rattle.std.proofs.Common.{◌≡◌, take}
use Rattle.ut_shown.specs.Shown.{eyes, shown_stamps}
use Rattle.ut_shown.proofs.parts.listed.Given as goal

abbrev pub invariant-loop-i : goal.invariant-loop-i
invariant-loop-i l = l.shown.items ≡ shown_stamps (eyes l.snapshot.fates.now l.snapshot.at l.snapshot.own) (take l.i l.stamps)
