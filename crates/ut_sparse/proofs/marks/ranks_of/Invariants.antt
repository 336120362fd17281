use Rattle.std.proofs.Common.{◌≡◌, ℕ, ◌*◌, ◌<◌, length, get_or, take}
use Rattle.ut_sparse.specs.Sparse.{marked}
use Rattle.ut_sparse.proofs.marks.ranks_of.Given as goal

abbrev pub invariant-loop-k : goal.invariant-loop-k
invariant-loop-k l = record {
  count : length l.ranks.items ≡ l.k;
  ranks : (j : ℕ) → j < l.k → get_or l.ranks.items j 0 ≡ marked (take (64 * j) l.marks.codes);
  next : l.before ≡ marked (take (64 * l.k) l.marks.codes);
}
