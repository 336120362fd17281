use Rattle.std.proofs.Common.{drop}
use Rattle.ut_restart.specs.Noted.{mains_noted}
use Rattle.ut_restart.proofs.NotedLemmas.{Noting}
use Rattle.ut_restart.proofs.rows.Rows.note_mains.Given as goal

abbrev pub invariant-loop-n : goal.invariant-loop-n
invariant-loop-n l = Noting l.initial.self (mains_noted 0 l.tables l.mains) l.self (mains_noted l.n (drop l.n l.tables) (drop l.n l.mains))
