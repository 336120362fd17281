use Rattle.ut_restart.specs.Replayed.{Replayed}
use Rattle.ut_restart.proofs.replay.Replay.follow_all.Given as goal

abbrev pub invariant-loop-entry : goal.invariant-loop-entry
invariant-loop-entry l =
    (goal.iterator-loop-entry).can_next l.entry-iterator ×
    (goal.iterator-loop-entry).is_finite l.entry-iterator × Replayed l.initial.self l.yielded l.self
