use Rattle.std.proofs.Common.{◌≡◌, ◌+◌, length}
use Rattle.ut_plain.specs.Made.{rows_of}
use Rattle.check_rows.proofs.made.row_count.Given as goal

abbrev pub invariant-loop-rest : goal.invariant-loop-rest
invariant-loop-rest l = l.count + length (rows_of l.width l.rest) ≡ length (rows_of l.width l.fn.values)

abbrev pub decreases-loop-rest : goal.decreases-loop-rest
decreases-loop-rest l = length l.rest
