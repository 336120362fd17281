use Rattle.std.proofs.Common.{◌≡◌, ◌≤◌, ◌+◌, ◌-◌, ◌^◌, ◌++◌, List, drop, take, length}
use Rattle.ut_value.specs.declared.entry.Op.{Op}
use Rattle.ut_value.specs.declared.entry.Entry.TheVariants.{Txn}
use Rattle.ut_value.specs.Spelling.{spelling, ops_len}
use Rattle.ut_change.specs.Bulks.{bulk_ops, CanLoad}
use Rattle.ut_change.proofs.bulk.Bulk.add.Given as goal

abbrev pub invariant-loop-rest : goal.invariant-loop-rest
invariant-loop-rest l = record {
  is : CanLoad l.rest;
  from : l.self.id ≤ l.rest.id;
  left : drop (l.rest.id - l.self.id) (bulk_ops l.self) ≡ bulk_ops l.rest;
  room : ops_len (bulk_ops l.rest) ≤ l.frame.spare;
  size : length l.frame.payload + ops_len (bulk_ops l.rest) ≤ 2 ^ 30;
  grown : (ps : List Op) → l.fn.frame.payload ≡ spelling (Txn ps) → l.frame.payload ≡ spelling (Txn (ps ++ take (l.rest.id - l.self.id) (bulk_ops l.self)));
}

abbrev pub decreases-loop-rest : goal.decreases-loop-rest
decreases-loop-rest l = length l.rest.values.now
