use Rattle.std.proofs.Common.{length}
use Rattle.ut_reading.proofs.FindLemmas.{MainSoFar}
use Rattle.ut_reading.proofs.parts.Reader.read_main.Given as goal

abbrev pub invariant-loop-left : goal.invariant-loop-left
invariant-loop-left g l = MainSoFar l.fn.drawn l.left l.main l.fn.self l.self (g.D.Disk.view l.fn.disk) (g.D.Disk.view l.disk)

abbrev pub decreases-loop-left : goal.decreases-loop-left
decreases-loop-left g l = length l.left
