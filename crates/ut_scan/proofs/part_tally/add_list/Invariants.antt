use Rattle.std.proofs.Common.{take}
use Rattle.ut_scan.specs.Tallies.{AreMore}
use Rattle.ut_scan.proofs.part_tally.add_list.Given as goal

abbrev pub invariant-loop-code : goal.invariant-loop-code
invariant-loop-code l = AreMore (take l.code-index l.codes) l.fn.counts l.counts
