use Rattle.std.proofs.Common.{◌≡◌, ◌≤◌, ◌+◌, IsTrue, drop}
use Rattle.std.specs.List.{sum_by, list_all}
use Rattle.ut_value.specs.Spelling.{op_len, is_op}
use Rattle.ut_change.proofs.write.ops_len.Given as goal

abbrev pub invariant-loop-op : goal.invariant-loop-op
invariant-loop-op l = record {
  rule : IsTrue (list_all is_op (drop l.op-index l.ops));
  so_far : l.total + sum_by op_len (drop l.op-index l.ops) ≡ sum_by op_len l.ops;
  few : l.total ≤ l.most;
}
