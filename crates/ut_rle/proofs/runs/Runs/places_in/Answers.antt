use Rattle.std.proofs.Common.{sym, subst}
use Rattle.ut_rle.specs.Ends.{Ascend}
use Rattle.ut_rle.proofs.EndsLemmas.{Ascend-AreRuns}
use Rattle.ut_rle.proofs.runs.Runs.places_in.Goals as goal

pub append_places_in-requires : goal.append_places_in-requires
append_places_in-requires c = subst (λ l. Ascend 0 l) (sym c.as_slice.ensures.value) (Ascend-AreRuns _ 0 c.self.inside.runs.items c.self.invariant.3)
