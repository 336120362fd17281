use Rattle.ut_sparse.proofs.FrequentLemmas.{IsLongest}
use Rattle.ut_sparse.proofs.frequent.longest_run.Given as goal

abbrev pub invariant-loop-code : goal.invariant-loop-code
invariant-loop-code l = IsLongest l.sorted l.code-index l.best.code l.best.count l.run.code l.run.count
