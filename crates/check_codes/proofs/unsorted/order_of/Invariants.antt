use Rattle.std.proofs.Common.{◌≤◌, length}
use Rattle.check_codes.proofs.unsorted.order_of.Given as goal

abbrev pub invariant-loop-key : goal.invariant-loop-key
invariant-loop-key g l = length l.dict ≤ l.key-index
