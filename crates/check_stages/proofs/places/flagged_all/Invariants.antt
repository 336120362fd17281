use Rattle.std.proofs.Common.{◌≡◌, ◌++◌}
use Rattle.ut_plain.specs.Merges.{flagged_all}
use Rattle.check_stages.proofs.places.flagged_all.Given as goal

-- those so far, and those of the rest
abbrev pub invariant-loop-places : goal.invariant-loop-places
invariant-loop-places l = l.kept ++ flagged_all l.places-iterator.a.rest.now l.places-iterator.b.rest.now ≡ flagged_all l.lists l.keep
