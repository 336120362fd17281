use Rattle.ut_merge.proofs.CodingLemmas.{IsUnitedTo}
use Rattle.ut_merge.proofs.coding.own_keys.Given as goal

abbrev pub invariant-loop-p : goal.invariant-loop-p
invariant-loop-p g l = IsUnitedTo l.job l.column l.p l.at l.used l.new l.united
