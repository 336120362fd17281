use Rattle.std.proofs.Common.{◌≡◌, map, take}
use Rattle.check_stages.specs.Needed.{is_kept_by}
use Rattle.check_stages.proofs.flags.flags_of.Given as goal

abbrev pub invariant-loop-place : goal.invariant-loop-place
invariant-loop-place l = l.flags ≡ map (is_kept_by l.ids) (take l.place-index l.places)
