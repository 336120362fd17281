use Rattle.std.proofs.Common.{◌≡◌, map, take}
use Rattle.check_stages.specs.There.{place_by}
use Rattle.check_stages.proofs.capture.parts_of.Given as goal

abbrev pub invariant-loop-part : goal.invariant-loop-part
invariant-loop-part l = l.copies ≡ map (map (place_by l.ids)) (take l.part-index l.parts)
