use Rattle.std.proofs.Common.{◌≡◌, take, sum_by}
use Rattle.ut_plain.specs.State.{entry_inserts}
use Rattle.check_rows.proofs.load.load_of.Given as goal

abbrev pub invariant-loop-entry : goal.invariant-loop-entry
invariant-loop-entry l = l.load ≡ sum_by entry_inserts (take l.entry-index l.entries)
