use Rattle.std.proofs.Common.{length}
use Rattle.ut_savepoint.specs.Writes.{planned_in}
use Rattle.ut_savepoint.proofs.CutLemmas.{CutSoFar}
use Rattle.ut_savepoint.proofs.cut.cut.Given as goal

abbrev pub invariant-loop-left : goal.invariant-loop-left
invariant-loop-left l = CutSoFar (planned_in l.fn.out.items) (planned_in l.out.items) l.fn.pages l.fn.bytes l.left l.rest

abbrev pub decreases-loop-left : goal.decreases-loop-left
decreases-loop-left l = length l.left
