use Rattle.ut_main.proofs.StandLemmas.{IsReadTo}
use Rattle.ut_main.proofs.bytes.columns_from.Given as goal

abbrev pub invariant-loop-j : goal.invariant-loop-j
invariant-loop-j g l = IsReadTo l.columns l.earlier l.rows l.bytes l.j l.read.items l.rest
