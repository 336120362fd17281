use Rattle.std.proofs.Common.{◌≡◌, ◌≤◌, ◌+◌, length}
use Rattle.ut_value.specs.Spelling.{ops_len}
use Rattle.ut_change.specs.Bulks.{bulk_ops, CanLoad}
use Rattle.ut_change.proofs.bulk.Bulk.ops_len.Given as goal

abbrev pub invariant-loop-rest : goal.invariant-loop-rest
invariant-loop-rest l = record {
  is : CanLoad l.rest;
  so_far : l.total + ops_len (bulk_ops l.rest) ≡ ops_len (bulk_ops l.self);
  few : l.total ≤ l.most;
}

abbrev pub decreases-loop-rest : goal.decreases-loop-rest
decreases-loop-rest l = length l.rest.values.now
