use Rattle.std.proofs.Common.{◌+◌, ◌-◌}
use Rattle.ut_dictmerge.proofs.WriteLemmas.{IsWritten}
use Rattle.ut_dictmerge.proofs.piece.write_piece.Given as goal

abbrev pub invariant-loop-i : goal.invariant-loop-i
invariant-loop-i l = IsWritten l.a l.used_a l.b l.used_b l.fn.from.a l.fn.from.b l.to_a l.to_b l.base l.keys l.from_a.items l.from_b.items l.i l.j

abbrev pub decreases-loop-i : goal.decreases-loop-i
decreases-loop-i l = (l.to_a - l.i) + (l.to_b - l.j)
