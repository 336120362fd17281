use Rattle.std.proofs.Common.{◌≡◌, map, take}
use Rattle.ut_restart.specs.Shown.{stamp_of_mark}
use Rattle.ut_restart.proofs.filling.stamps_of_part.Given as goal

abbrev pub invariant-loop-mark : goal.invariant-loop-mark
invariant-loop-mark l = l.stamps.items ≡ map stamp_of_mark (take l.mark-index l.live)
