use Rattle.std.proofs.Common.{◌≡◌, length}
use Rattle.check_table.proofs.joint.stamps.Given as goal

abbrev pub invariant-loop-i : goal.invariant-loop-i
invariant-loop-i l = length l.stamps.items ≡ l.i
