use Rattle.std.proofs.Common.{◌≡◌, ◌++◌, drop, map}
use Rattle.ut_ops.specs.Fit.{cell}
use Rattle.ut_ops.proofs.columns.picked_row.Given as goal

-- those so far and those that are left are all
abbrev pub invariant-loop-place : goal.invariant-loop-place
invariant-loop-place l = l.values ++ map (λ place. cell l.table.stages place l.hit) (drop l.place-index l.places) ≡ map (λ place. cell l.table.stages place l.hit) l.places
