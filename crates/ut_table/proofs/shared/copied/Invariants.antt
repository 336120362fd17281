use Rattle.std.proofs.Common.{◌≡◌, take}
use Rattle.ut_table.proofs.shared.copied.Given as goal

abbrev pub invariant-loop-i : goal.invariant-loop-i
invariant-loop-i l = (l.copy.width ≡ l.l2.width) × (l.copy.rows ≡ take l.i l.l2.rows)
