use Rattle.std.proofs.Common.{◌≡◌, take, flat_map}
use Rattle.ut_merge.proofs.gathering.join.Given as goal

abbrev pub invariant-loop-list : goal.invariant-loop-list
invariant-loop-list l = l.codes.items ≡ flat_map (λ list. list.items) (take l.list-index l.lists)
