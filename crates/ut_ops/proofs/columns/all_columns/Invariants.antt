use Rattle.std.proofs.Common.{◌≡◌, ◌++◌, drop, map}
use Rattle.ut_ops.specs.Fit.{values_at}
use Rattle.ut_ops.proofs.columns.all_columns.Given as goal

-- those so far and those that are left are all
abbrev pub invariant-loop-hit : goal.invariant-loop-hit
invariant-loop-hit l = l.rows ++ map (values_at l.table.stages) (drop l.hit-index l.hits) ≡ map (values_at l.table.stages) l.hits
