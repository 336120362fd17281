use Rattle.std.proofs.Common.{take}
use Rattle.ut_scan.specs.Tallies.{AreMore}
use Rattle.ut_scan.proofs.part_tally.add_packed.Given as goal

abbrev pub invariant-loop-i : goal.invariant-loop-i
invariant-loop-i l = AreMore (take l.i l.codes.codes) l.fn.counts l.counts
