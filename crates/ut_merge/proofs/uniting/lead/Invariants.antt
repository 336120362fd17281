use Rattle.std.proofs.Common.{◌≡◌, ◌++◌, map, take, drop}
use Rattle.ut_merge.specs.Uniting.{led}
use Rattle.ut_merge.proofs.uniting.lead.Given as goal

abbrev pub invariant-loop-i : goal.invariant-loop-i
invariant-loop-i l = l.places.items ≡ map (led l.to) (take l.i l.fn.places.items) ++ drop l.i l.fn.places.items
