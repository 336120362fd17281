use Rattle.std.proofs.Common.{◌≡◌, map, take}
use Rattle.ut_shown.specs.Shown.{eyes, row_stamps}
use Rattle.ut_shown.proofs.parts.all_stamps.Given as goal

abbrev pub invariant-loop-p : goal.invariant-loop-p
invariant-loop-p l = l.shown.items ≡ map (row_stamps (eyes l.snapshot.fates.now l.snapshot.at l.snapshot.own)) (take l.p l.table.stages.parts)
