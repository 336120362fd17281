use Rattle.std.proofs.Common.{◌≡◌, drop}
use Rattle.ut_nextid.specs.NextIds.{entries_next}
use Rattle.ut_nextid.proofs.next_ids.next_behind.Given as goal

abbrev pub invariant-loop-entry : goal.invariant-loop-entry
invariant-loop-entry l = record { so_far : entries_next l.behind (drop l.entry-index l.entries) ≡ entries_next l.next l.entries }
