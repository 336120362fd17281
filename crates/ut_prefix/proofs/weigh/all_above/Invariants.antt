use Rattle.ut_prefix.proofs.AboveLemmas.{IsAbove}
use Rattle.ut_prefix.proofs.weigh.all_above.Given as goal

abbrev pub invariant-loop-i : goal.invariant-loop-i
invariant-loop-i l = IsAbove l.usual l.starts l.len l.bytes l.weights l.left l.i l.sum
