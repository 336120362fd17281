use Rattle.std.proofs.Common.{◌≡◌, ◌++◌, take}
use Rattle.ut_merge.specs.Uniting.{chosen_all}
use Rattle.ut_merge.proofs.coding.push_closed.Given as goal

abbrev pub invariant-loop-i : goal.invariant-loop-i
invariant-loop-i l = l.entries.items ≡ l.fn.entries.items ++ chosen_all l.start (take l.i l.places) (take l.i l.found)
