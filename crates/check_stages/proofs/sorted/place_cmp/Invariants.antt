use Rattle.std.proofs.Common.{◌≡◌, drop}
use Rattle.ut_plain.specs.Merges.{place_cmp}
use Rattle.check_stages.proofs.sorted.place_cmp.Given as goal

-- the keys are the same in the columns so far
abbrev pub invariant-loop-column : goal.invariant-loop-column
invariant-loop-column l = place_cmp (drop l.column-index l.columns) l.a l.b ≡ place_cmp l.columns l.a l.b
