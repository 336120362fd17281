use Rattle.std.proofs.Common.{◌≡◌, ℕ, ◌<◌, length, get_or, take}
use Rattle.ut_sparse.specs.Frequent.{count_of}
use Rattle.ut_sparse.proofs.frequent.add_counts.Given as goal

abbrev pub invariant-loop-code : goal.invariant-loop-code
invariant-loop-code l = (d : ℕ) → d < length l.counts → get_or l.counts d 0 ≡ count_of d (take l.code-index l.codes)
