use Rattle.std.proofs.Common.{◌≡◌, ◌≤◌, ◌+◌, ◌^◌, ◌++◌, List, IsTrue, drop, take, length}
use Rattle.std.specs.List.{sum_by, list_all}
use Rattle.ut_value.specs.declared.entry.Op.{Op}
use Rattle.ut_value.specs.declared.entry.Entry.TheVariants.{Txn}
use Rattle.ut_value.specs.Spelling.{spelling, op_len, is_op}
use Rattle.ut_change.proofs.write.add_all.Given as goal

abbrev pub invariant-loop-op : goal.invariant-loop-op
invariant-loop-op l = record {
  rule : IsTrue (list_all is_op (drop l.op-index l.ops));
  room : sum_by op_len (drop l.op-index l.ops) ≤ l.frame.spare;
  size : length l.frame.payload + sum_by op_len (drop l.op-index l.ops) ≤ 2 ^ 30;
  grown : (ps : List Op) → l.fn.frame.payload ≡ spelling (Txn ps) → l.frame.payload ≡ spelling (Txn (ps ++ take l.op-index l.ops));
}
