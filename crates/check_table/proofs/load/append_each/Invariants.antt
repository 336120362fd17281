use Rattle.std.proofs.Common.{◌≡◌}
use Rattle.check_table.proofs.load.append_each.Given as goal

abbrev pub invariant-loop-from : goal.invariant-loop-from
invariant-loop-from g l = l.l2.width ≡ l.width
