use Rattle.std.proofs.Common.{◌≡◌, take}
use Rattle.ut_plain.specs.Merges.{all_kept}
use Rattle.check_stages.proofs.flags.all_kept.Given as goal

abbrev pub invariant-loop : goal.invariant-loop
invariant-loop l = l.flags ≡ all_kept (take l.index l.places)
