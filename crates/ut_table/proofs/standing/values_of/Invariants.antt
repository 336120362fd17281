use Rattle.std.proofs.Common.{◌≡◌, take}
use Rattle.ut_table.specs.Standing.{values_held}
use Rattle.ut_table.proofs.standing.values_of.Given as goal

abbrev pub invariant-loop-column : goal.invariant-loop-column
invariant-loop-column l = l.values ≡ take l.column (values_held l.columns l.standing)
