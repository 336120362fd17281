use Rattle.std.proofs.Common.{◌≡◌, ◌≤◌, ◌+◌, drop}
use Rattle.std.specs.List.{sum_by}
use Rattle.ut_plain.specs.Rows.{op_inserts}
use Rattle.ut_change.proofs.write.inserts_of.Given as goal

abbrev pub invariant-loop-op : goal.invariant-loop-op
invariant-loop-op l = record {
  so_far : l.inserts + sum_by op_inserts (drop l.op-index l.ops) ≡ sum_by op_inserts l.ops;
  few : l.inserts ≤ l.op-index;
}
