use Rattle.std.proofs.Common.{◌≡◌, drop}
use Rattle.ut_plain.specs.Query.{distinct}
use Rattle.check_rows.proofs.values.distinct.Given as goal

abbrev pub invariant-loop-place : goal.invariant-loop-place
invariant-loop-place l = l.keys.items ≡ distinct (drop l.place l.values)
