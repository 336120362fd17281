use Rattle.ut_merge.specs.Columns.{codes_in, ArePartCodes}
use Rattle.ut_merge.proofs.gathering.part_codes.Given as goal

abbrev pub invariant-loop-p : goal.invariant-loop-p
invariant-loop-p l = ArePartCodes l.job l.column l.p (codes_in l.parts.items)
