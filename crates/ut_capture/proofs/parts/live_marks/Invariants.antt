use Rattle.std.proofs.Common.{◌≡◌, None, map, take}
use Rattle.ut_stamps.specs.Stamps.{sees}
use Rattle.ut_capture.proofs.parts.live_marks.Given as goal

abbrev pub invariant-loop-i : goal.invariant-loop-i
invariant-loop-i l = l.marks.items ≡ map (sees l.fates l.entries None) (take l.i l.stamps)
