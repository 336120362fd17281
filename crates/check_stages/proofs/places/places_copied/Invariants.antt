use Rattle.std.proofs.Common.{◌≡◌, take}
use Rattle.check_stages.proofs.places.places_copied.Given as goal

abbrev pub invariant-loop-place : goal.invariant-loop-place
invariant-loop-place l = l.copies ≡ take l.place-index l.places
