use Rattle.std.proofs.Common.{◌≡◌, take}
use Rattle.check_rows.specs.Listed.{listed_all}
use Rattle.check_rows.proofs.rows.apply_all.Given as goal

abbrev pub invariant-loop-op : goal.invariant-loop-op
invariant-loop-op l = l.rows.items ≡ listed_all l.fn.rows.items (take l.op-index l.ops)
