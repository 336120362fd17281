use Rattle.ut_prefix.proofs.AboveLemmas.{IsReadAbove}
use Rattle.ut_prefix.proofs.weigh.read_above.Given as goal

abbrev pub invariant-loop-i : goal.invariant-loop-i
invariant-loop-i l = IsReadAbove l.usual l.weights l.block l.key l.rest l.i l.sum
