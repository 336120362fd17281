use Rattle.std.proofs.Common.{◌≡◌, ◌++◌, map}
use Rattle.ut_ops.specs.Tally.{as_group}
use Rattle.ut_ops.proofs.groups.groups_of.Given as goal

-- those so far and those that are left are all
abbrev pub invariant-loop-key : goal.invariant-loop-key
invariant-loop-key l = l.said ++ map as_group l.key-iterator ≡ map as_group l.fn.sums.entries
