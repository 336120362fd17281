use Rattle.std.proofs.Common.{drop}
use Rattle.ut_stamps.specs.declared.place.Place.TheVariants.{Main}
use Rattle.ut_restart.specs.Noted.{noted, part_cells, part_noted}
use Rattle.ut_restart.proofs.NotedLemmas.{Noting}
use Rattle.ut_restart.proofs.rows.Rows.note_part.Given as goal

abbrev pub invariant-loop-i : goal.invariant-loop-i
invariant-loop-i l = Noting l.initial.self (part_noted l.table l.p l.part.rows l.live) l.self (noted l.table (Main l.p) l.i (part_cells (drop l.i l.part.rows) (drop l.i l.live)))
