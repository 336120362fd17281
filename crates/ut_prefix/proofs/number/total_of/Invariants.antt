use Rattle.std.proofs.Common.{take}
use Rattle.ut_prefix.specs.Totals.{IsTotal}
use Rattle.ut_prefix.proofs.number.total_of.Given as goal

abbrev pub invariant-loop-i : goal.invariant-loop-i
invariant-loop-i l = IsTotal (take l.i l.keys) l.total
