use Rattle.std.proofs.Common.{◌≡◌, ◌+◌, take}
use Rattle.ut_value.specs.Spelling.{ops_len}
use Rattle.check_oracle.proofs.room.left_by_ops.Given as goal

abbrev pub invariant-loop-op : goal.invariant-loop-op
invariant-loop-op l = l.left + ops_len (take l.op-index l.ops) ≡ l.room
