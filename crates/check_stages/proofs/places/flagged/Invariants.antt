use Rattle.std.proofs.Common.{◌≡◌, ◌++◌}
use Rattle.ut_plain.specs.Merges.{flagged}
use Rattle.check_stages.proofs.places.flagged.Given as goal

-- those so far, and those of the rest
abbrev pub invariant-loop-place : goal.invariant-loop-place
invariant-loop-place l = l.kept ++ flagged l.place-iterator.a.rest.now l.place-iterator.b.rest.now ≡ flagged l.places l.flags
