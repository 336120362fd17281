use Rattle.std.proofs.Common.{◌≡◌, take}
use Rattle.ut_plain.specs.State.{State}
use Rattle.ut_plain.specs.Journal.{after_all}
use Rattle.check_rows.proofs.load.next_from.Given as goal

abbrev pub invariant-loop-entry : goal.invariant-loop-entry
invariant-loop-entry l = (s : State) → s.next ≡ l.from → l.next ≡ (after_all s (take l.entry-index l.entries)).next
