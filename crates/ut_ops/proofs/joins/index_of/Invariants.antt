use Rattle.std.proofs.Common.{take}
use Rattle.ut_ops.specs.Index.{IsIndex}
use Rattle.ut_ops.proofs.joins.index_of.Given as goal

-- those so far
abbrev pub invariant-loop-row : goal.invariant-loop-row
invariant-loop-row l = IsIndex l.table.stages l.column (take l.row l.hits) l.index
