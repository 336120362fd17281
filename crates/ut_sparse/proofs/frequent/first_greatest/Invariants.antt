use Rattle.std.proofs.Common.{◌≡◌, ℕ, ◌<◌, ◌≤◌, length, get_or}
use Rattle.ut_sparse.proofs.frequent.first_greatest.Given as goal

abbrev pub invariant-loop-i : goal.invariant-loop-i
invariant-loop-i l = record {
  begun : l.best < l.i;
  within : l.i ≤ length l.counts;
  greatest : (d : ℕ) → d < l.i → get_or l.counts d 0 ≤ get_or l.counts l.best 0;
  first : (d : ℕ) → d < l.i → get_or l.counts d 0 ≡ get_or l.counts l.best 0 → l.best ≤ d;
}
