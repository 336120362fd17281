use Rattle.std.proofs.Common.{◌≡◌, ◌+◌, ◌≤◌, ◌++◌, drop, vec_len, vec_capacity, IsTrue}
use Rattle.std.specs.List.{flat_map, sum_by, list_all}
use Rattle.ut_value.specs.Spelling.{op_spelling, op_len, is_op}
use Rattle.ut_entry.proofs.write.put_ops.Given as goal

abbrev pub invariant-loop-op : goal.invariant-loop-op
invariant-loop-op l = record {
  rule : IsTrue (list_all is_op (drop l.op-index l.ops));
  written : l.out.items ++ flat_map op_spelling (drop l.op-index l.ops) ≡ l.fn.out.items ++ flat_map op_spelling l.ops;
  length : vec_len l.out + sum_by op_len (drop l.op-index l.ops) ≡ vec_len l.fn.out + sum_by op_len l.ops;
  room : vec_capacity l.fn.out ≤ vec_capacity l.out;
}
