use Rattle.std.proofs.Common.{◌≡◌, map, take}
use Rattle.std.specs.Global.{Vec}
use Rattle.ut_stamps.specs.declared.visibility.Stamp.{Stamp}
use Rattle.ut_restart.specs.Shown.{stamp_of_mark, marks_of}
use Rattle.ut_restart.proofs.filling.stamps_of.Given as goal

abbrev pub invariant-loop-part : goal.invariant-loop-part
invariant-loop-part l = map (λ (v : Vec Stamp). v.items) l.stamps.items ≡ map (map stamp_of_mark) (marks_of (take l.part-index l.refs))
