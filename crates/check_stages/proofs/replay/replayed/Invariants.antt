use Rattle.std.proofs.Common.{◌≡◌, take}
use Rattle.ut_plain.specs.Restart.{replayed}
use Rattle.check_stages.proofs.replay.replayed.Given as goal

abbrev pub invariant-loop-entry : goal.invariant-loop-entry
invariant-loop-entry l = l.stages.items ≡ replayed l.first (take l.entry-index l.entries)
