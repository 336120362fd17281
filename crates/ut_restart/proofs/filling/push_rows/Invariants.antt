use Rattle.std.proofs.Common.{◌≡◌, ◌++◌, map}
use Rattle.ut_restart.specs.Standing.{live_row}
use Rattle.ut_restart.proofs.filling.push_rows.Given as goal

abbrev pub invariant-loop-row : goal.invariant-loop-row
invariant-loop-row l = l.stages.stages ≡ record l.initial.stages.stages { l1 = l.initial.stages.stages.l1 ++ map live_row l.yielded }
