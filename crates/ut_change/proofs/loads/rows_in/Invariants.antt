use Rattle.std.proofs.Common.{◌≡◌, ◌+◌, ◌≤◌, length}
use Rattle.ut_plain.specs.Made.{rows_of}
use Rattle.ut_change.proofs.loads.rows_in.Given as goal

abbrev pub invariant-loop-rest : goal.invariant-loop-rest
invariant-loop-rest l = record {
  so_far : l.count + length (rows_of l.width l.rest) ≡ length (rows_of l.width l.values);
  few : l.count + length l.rest ≤ length l.values;
}

abbrev pub decreases-loop-rest : goal.decreases-loop-rest
decreases-loop-rest l = length l.rest
