use Rattle.std.proofs.Common.{◌≡◌, map, take}
use Rattle.check_stages.specs.There.{table_by}
use Rattle.check_stages.proofs.capture.captured.Given as goal

abbrev pub invariant-loop-table : goal.invariant-loop-table
invariant-loop-table l = l.image ≡ map (table_by l.ids) (take l.table-index l.stages)
