use Rattle.std.proofs.Common.{◌≡◌, map, take}
use Rattle.ut_plain.specs.Restart.{buried}
use Rattle.check_stages.proofs.replay.all_buried.Given as goal

abbrev pub invariant-loop-place : goal.invariant-loop-place
invariant-loop-place l = l.copies ≡ map (buried l.id) (take l.place-index l.places)
