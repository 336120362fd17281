use Rattle.std.proofs.Common.{◌≡◌, ◌++◌, map, drop}
use Rattle.std.specs.List.{items_where_true}
use Rattle.ut_l2.specs.KeyRows.{KeyRow}
use Rattle.ut_reading.proofs.parts.add_live.Given as goal

abbrev pub invariant-loop-i : goal.invariant-loop-i
invariant-loop-i l = l.live.items ++ map (λ (r : KeyRow). r.id) (items_where_true (drop l.i l.marks) (drop l.i l.part.rows)) ≡ l.fn.live.items ++ map (λ (r : KeyRow). r.id) (items_where_true l.marks l.part.rows)
