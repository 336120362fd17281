use Rattle.std.proofs.Common.{sym, subst}
use Rattle.ut_rle.specs.Ends.{Ascend}
use Rattle.ut_rle.proofs.EndsLemmas.{Ascend-AreRuns}
use Rattle.ut_rle.proofs.runs.Runs.keep_in.Goals as goal

pub keep_runs-requires-clause-order : goal.keep_runs-requires-clause-order
keep_runs-requires-clause-order c = subst (λ l. Ascend 0 l) (sym c.as_slice.ensures.value) (Ascend-AreRuns _ 0 c.self.inside.runs.items c.self.invariant.3)
