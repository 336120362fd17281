use Rattle.ut_ops.specs.Noted.{AreNoted}
use Rattle.ut_ops.proofs.numbers.notes.Given as goal

abbrev pub invariant-loop : goal.invariant-loop
invariant-loop l = AreNoted l.table.stages l.column l.notes.items
