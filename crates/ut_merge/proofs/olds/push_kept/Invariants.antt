use Rattle.std.proofs.Common.{◌≡◌, ◌++◌, drop}
use Rattle.ut_plain.specs.Merges.{flagged}
use Rattle.ut_merge.specs.Places.{places_in_list}
use Rattle.ut_merge.proofs.olds.push_kept.Given as goal

abbrev pub invariant-loop-i : goal.invariant-loop-i
invariant-loop-i l = l.olds.items ++ flagged (drop l.i (places_in_list l.job l.list)) (drop l.i l.flags) ≡ l.fn.olds.items ++ flagged (places_in_list l.job l.list) l.flags
