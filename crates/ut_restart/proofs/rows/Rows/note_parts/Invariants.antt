use Rattle.std.proofs.Common.{drop}
use Rattle.ut_restart.specs.Noted.{parts_noted}
use Rattle.ut_restart.proofs.NotedLemmas.{Noting}
use Rattle.ut_restart.proofs.rows.Rows.note_parts.Given as goal

abbrev pub invariant-loop-p : goal.invariant-loop-p
invariant-loop-p l = Noting l.initial.self (parts_noted l.table 0 l.refs l.main.parts) l.self (parts_noted l.table l.p (drop l.p l.refs) (drop l.p l.main.parts))
