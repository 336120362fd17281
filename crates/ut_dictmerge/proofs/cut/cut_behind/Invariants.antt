use Rattle.std.proofs.Common.{◌-◌}
use Rattle.ut_dictmerge.proofs.CutLemmas.{IsBetween}
use Rattle.ut_dictmerge.proofs.cut.cut_behind.Given as goal

abbrev pub invariant-loop-low : goal.invariant-loop-low
invariant-loop-low l = IsBetween l.a l.b l.keys l.low l.high

abbrev pub decreases-loop-low : goal.decreases-loop-low
decreases-loop-low l = l.high - l.low
