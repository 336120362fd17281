use Rattle.std.proofs.Common.{drop}
use Rattle.ut_restart.specs.Noted.{deltas_noted}
use Rattle.ut_restart.proofs.NotedLemmas.{Noting}
use Rattle.ut_restart.proofs.rows.Rows.note_deltas.Given as goal

abbrev pub invariant-loop-n : goal.invariant-loop-n
invariant-loop-n l = Noting l.initial.self (deltas_noted 0 l.tables) l.self (deltas_noted l.n (drop l.n l.tables))
