use Rattle.std.proofs.Common.{sym, subst}
use Rattle.std.specs.List.{IsDistinct}
use Rattle.ut_unsorted.specs.FirstSeen.{key_eq}
use Rattle.ut_unsorted.proofs.RisingLemmas.{rising-distinct}
use Rattle.ut_unsorted.proofs.rising.Rising.as_slice.Goals as goal

pub returns-clause-differ : goal.returns-clause-differ
returns-clause-differ c = subst (IsDistinct key_eq) (sym c.as_slice.ensures.value) (rising-distinct c.self.inside.words.items c.self.invariant.0)
