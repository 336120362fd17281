use Rattle.std.proofs.Common.{◌≡◌, map, take}
use Rattle.check_stages.specs.There.{place_by}
use Rattle.check_stages.proofs.capture.part_of.Given as goal

abbrev pub invariant-loop-place : goal.invariant-loop-place
invariant-loop-place l = l.copies ≡ map (place_by l.ids) (take l.place-index l.part)
