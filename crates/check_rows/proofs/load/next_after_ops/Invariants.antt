use Rattle.std.proofs.Common.{◌≡◌, take}
use Rattle.ut_plain.specs.Rows.{next_after}
use Rattle.check_rows.proofs.load.next_after_ops.Given as goal

abbrev pub invariant-loop-op : goal.invariant-loop-op
invariant-loop-op l = l.last ≡ next_after l.next (take l.op-index l.ops)
