use Rattle.std.proofs.Common.{◌≤◌}
use Rattle.check_codes.proofs.dictmerge.check_each.Given as goal

-- a place for each number at most
abbrev pub invariant-loop-number : goal.invariant-loop-number
invariant-loop-number g l = l.place ≤ l.number-counter
