use Rattle.std.proofs.Common.{◌≡◌, map, take}
use Rattle.ut_plain.specs.Merges.{all_kept}
use Rattle.check_stages.proofs.flags.all_kept_in.Given as goal

abbrev pub invariant-loop-places : goal.invariant-loop-places
invariant-loop-places l = l.keep ≡ map all_kept (take l.places-index l.lists)
