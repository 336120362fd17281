use Rattle.std.proofs.Common.{◌≡◌, ◌++◌, map}
use Rattle.std.specs.Vec.Iter.{into_iter_items}
use Rattle.ut_ops.specs.Index.{listed, lists_now}
use Rattle.ut_ops.proofs.joins.partners_of.Given as goal

-- those so far and those that are left are all
abbrev pub invariant-loop-value : goal.invariant-loop-value
invariant-loop-value l = lists_now l.all.items ++ map (listed l.index) (into_iter_items l.value-iterator) ≡ map (listed l.index) l.fn.values.items
