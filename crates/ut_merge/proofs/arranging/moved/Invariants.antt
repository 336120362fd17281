use Rattle.std.proofs.Common.{◌≡◌, map, take, get_or}
use Rattle.ut_merge.proofs.arranging.moved.Given as goal

abbrev pub invariant-loop-place : goal.invariant-loop-place
invariant-loop-place g l = (d : _) → l.new.items ≡ map (λ place. get_or l.items place d) (take l.place-index l.places)
