use Rattle.std.proofs.Common.{◌≡◌, ℕ, ◌<◌, ◌≤◌, ◌++◌, ◌-◌, [], length, get_or}
use Rattle.ut_l2.specs.Sources.{cells_in}
use Rattle.ut_l2.proofs.l2.append_pieces.Given as goal

abbrev pub invariant-loop-at : goal.invariant-loop-at
invariant-loop-at l = record {
  within : l.at ≤ l.count;
  width : length l.columns.items ≡ length l.fn.columns.items;
  so_far : (j : ℕ) → j < length l.fn.columns.items → get_or l.columns.items j [] ≡ get_or l.fn.columns.items j [] ++ cells_in l.source j 0 l.at;
}

abbrev pub decreases-loop-at : goal.decreases-loop-at
decreases-loop-at l = l.count - l.at
