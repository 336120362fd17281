use Rattle.std.proofs.Common.{◌≡◌, ◌≤◌, take}
use Rattle.ut_plain.specs.Rows.{inserts_of}
use Rattle.check_rows.proofs.load.inserts_of.Given as goal

abbrev pub invariant-loop-op : goal.invariant-loop-op
invariant-loop-op l = record {
  sum : l.count ≡ inserts_of (take l.op-index l.ops);
  few : l.count ≤ l.op-index;
}
