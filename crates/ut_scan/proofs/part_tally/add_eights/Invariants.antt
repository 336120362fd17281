use Rattle.std.proofs.Common.{◌*◌, take}
use Rattle.ut_scan.specs.Tallies.{AreMore}
use Rattle.ut_scan.proofs.part_tally.add_eights.Given as goal

abbrev pub invariant-loop-k : goal.invariant-loop-k
invariant-loop-k l = AreMore (take (8 * l.k) l.codes.codes) l.fn.counts l.counts
