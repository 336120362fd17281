use Rattle.std.proofs.Common.{◌≡◌, ◌++◌, map, take}
use Rattle.check_oracle.proofs.needed.add_ids.Given as goal

abbrev pub invariant-loop-row : goal.invariant-loop-row
invariant-loop-row l = l.ids.items ≡ l.fn.ids.items ++ map (λ e. e.0) (take l.row-index l.rows)
