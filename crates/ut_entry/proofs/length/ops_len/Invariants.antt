use Rattle.std.proofs.Common.{◌≡◌, ◌+◌, drop}
use Rattle.std.specs.List.{sum_by}
use Rattle.ut_value.specs.Spelling.{op_len}
use Rattle.ut_entry.proofs.length.ops_len.Given as goal

abbrev pub invariant-loop-op : goal.invariant-loop-op
invariant-loop-op l = l.total + sum_by op_len (drop l.op-index l.ops) ≡ sum_by op_len l.ops
