use Rattle.std.proofs.Common.{◌≡◌, ◌++◌, map, drop}
use Rattle.ut_value.specs.declared.value.Row.{Row}
use Rattle.ut_image.proofs.ids.add_ids.Given as goal

abbrev pub invariant-loop-row : goal.invariant-loop-row
invariant-loop-row l = l.ids.items ++ map (λ (r : Row). r.id) (drop l.row-index l.rows) ≡ l.fn.ids.items ++ map (λ (r : Row). r.id) l.rows
