use Rattle.std.proofs.Common.{ℕ, ◌<◌, ◌≤◌, get_or}
use Rattle.ut_packed.proofs.bounds.bounds_between.Given as goal

abbrev pub invariant-loop-i : goal.invariant-loop-i
invariant-loop-i l = (j : ℕ) → l.start ≤ j → j < l.i → (l.least ≤ get_or l.list.codes j 0) × (get_or l.list.codes j 0 ≤ l.greatest)
