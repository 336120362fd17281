use Rattle.std.proofs.Common.{drop}
use Rattle.ut_restart.specs.Noted.{noted, row_cells, place_in, rows_noted}
use Rattle.ut_restart.proofs.NotedLemmas.{Noting}
use Rattle.ut_restart.proofs.rows.Rows.note_rows.Given as goal

abbrev pub invariant-loop-i : goal.invariant-loop-i
invariant-loop-i l = Noting l.initial.self (rows_noted l.table l.delta l.rows) l.self (noted l.table (place_in l.delta) l.i (row_cells (drop l.i l.rows)))
