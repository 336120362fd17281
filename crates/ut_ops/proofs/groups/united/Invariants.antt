use Rattle.std.specs.Vec.Iter.{into_iter_items}
use Rattle.ut_ops.proofs.GatherLemmas.{IsUnited}
use Rattle.ut_ops.proofs.groups.united.Given as goal

abbrev pub invariant-loop-key : goal.invariant-loop-key
invariant-loop-key l = IsUnited l.fn.gathered.items (into_iter_items l.key-iterator) l.sums.entries
