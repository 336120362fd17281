use Rattle.std.proofs.Common.{◌≡◌, map, take}
use Rattle.ut_plain.specs.Restart.{buried}
use Rattle.check_stages.proofs.replay.parts_buried.Given as goal

abbrev pub invariant-loop-part : goal.invariant-loop-part
invariant-loop-part l = l.copies ≡ map (map (buried l.id)) (take l.part-index l.parts)
