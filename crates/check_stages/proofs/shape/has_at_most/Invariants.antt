use Rattle.std.proofs.Common.{◌≡◌, ◌+◌, take}
use Rattle.ut_plain.specs.Stages.{all_places}
use Rattle.check_stages.proofs.shape.has_at_most.Given as goal

abbrev pub invariant-loop-table : goal.invariant-loop-table
invariant-loop-table l = l.left + all_places (take l.table-index l.stages) ≡ l.rows
