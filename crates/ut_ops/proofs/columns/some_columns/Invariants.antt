use Rattle.std.proofs.Common.{◌≡◌, ◌++◌, drop, map}
use Rattle.ut_ops.specs.Fit.{cell}
use Rattle.ut_ops.proofs.columns.some_columns.Given as goal

-- those so far and those that are left are all
abbrev pub invariant-loop-hit : goal.invariant-loop-hit
invariant-loop-hit l = l.rows ++ map (λ f. map (λ place. cell l.table.stages place f) l.places) (drop l.hit-index l.hits) ≡ map (λ f. map (λ place. cell l.table.stages place f) l.places) l.hits
