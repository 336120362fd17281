use Rattle.std.proofs.Common.{◌≡◌, take}
use Rattle.ut_table.specs.Outside.{rows_in}
use Rattle.ut_shown.specs.Shown.{eyes}
use Rattle.ut_shown.proofs.PushLemmas.{pushed}
use Rattle.ut_shown.proofs.table.push_seen.Given as goal

abbrev pub invariant-loop-i : goal.invariant-loop-i
invariant-loop-i l = l.out.stages ≡ pushed (eyes l.snapshot.fates.now l.snapshot.at l.snapshot.own) (take l.i (rows_in l.stage l.table.stages)) l.fn.out.stages
