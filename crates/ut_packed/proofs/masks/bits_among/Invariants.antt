use Rattle.std.proofs.Common.{◌-◌}
use Rattle.ut_bits.specs.Places.{is_in}
use Rattle.ut_packed.proofs.WordLemmas.{AreGathered}
use Rattle.ut_packed.proofs.masks.bits_among.Given as goal

abbrev pub invariant-loop-at : goal.invariant-loop-at
invariant-loop-at l = AreGathered (is_in l.ranges) l.start l.at l.end l.bits l.list.codes

abbrev pub decreases-loop-at : goal.decreases-loop-at
decreases-loop-at l = l.at - l.start
