use Rattle.std.proofs.Common.{◌≡◌, ◌≤◌, map, All}
use Rattle.std.specs.List.{range_with_len}
use Rattle.ut_resort.specs.declared.rows.Keyed.{Keyed}
use Rattle.ut_resort.specs.Sorting.{IsKeyed}
use Rattle.ut_resort.proofs.rows.keyed_rows.Given as goal

abbrev pub invariant-loop-row : goal.invariant-loop-row
invariant-loop-row l = (l.row ≤ l.row-end) × (map (λ (k : Keyed). k.row) l.rows.items ≡ range_with_len 0 l.row) × All (IsKeyed l.keys) l.rows.items
