use Rattle.std.proofs.Common.{◌≡◌, ◌++◌, drop, map}
use Rattle.ut_ops.specs.Fit.{cell}
use Rattle.ut_ops.proofs.columns.add_columns.Given as goal

-- those so far and those that are left are all
abbrev pub invariant-loop-place : goal.invariant-loop-place
invariant-loop-place l = l.columns.items ++ map (λ place. map (cell l.table.stages place) l.hits) (drop l.place-index l.places) ≡ l.initial.columns.items ++ map (λ place. map (cell l.table.stages place) l.hits) l.places
