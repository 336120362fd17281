use Rattle.std.proofs.Common.{◌≡◌, map, take}
use Rattle.check_stages.specs.Needed.{is_kept_by}
use Rattle.check_stages.proofs.flags.flags_in.Given as goal

abbrev pub invariant-loop-places : goal.invariant-loop-places
invariant-loop-places l = l.keep ≡ map (map (is_kept_by l.ids)) (take l.places-index l.lists)
