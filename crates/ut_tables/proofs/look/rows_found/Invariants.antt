use Rattle.std.proofs.Common.{◌≡◌, map, take}
use Rattle.ut_tables.specs.Finds.{row_in}
use Rattle.ut_tables.proofs.look.rows_found.Given as goal

abbrev pub invariant-loop-hit : goal.invariant-loop-hit
invariant-loop-hit l = l.rows ≡ map (row_in l.table.stages) (take l.hit-index l.found)
