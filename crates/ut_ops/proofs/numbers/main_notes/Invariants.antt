use Rattle.ut_ops.specs.Noted.{AreNoted}
use Rattle.ut_ops.proofs.numbers.main_notes.Given as goal

abbrev pub invariant-loop-code : goal.invariant-loop-code
invariant-loop-code l = AreNoted l.table.stages l.column l.notes.items
