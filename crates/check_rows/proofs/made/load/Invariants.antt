use Rattle.std.proofs.Common.{◌≡◌, ◌+◌, ◌++◌, length}
use Rattle.ut_plain.specs.Made.{rows_of, inserts}
use Rattle.check_rows.proofs.made.load.Given as goal

abbrev pub invariant-loop-rest : goal.invariant-loop-rest
invariant-loop-rest l = record {
  made : l.ops ++ inserts l.table l.id (rows_of l.width l.rest) ≡ inserts l.table l.next (rows_of l.width l.fn.values);
  ids : l.id + length (rows_of l.width l.rest) ≡ l.next + length (rows_of l.width l.fn.values);
}

abbrev pub decreases-loop-rest : goal.decreases-loop-rest
decreases-loop-rest l = length l.rest
