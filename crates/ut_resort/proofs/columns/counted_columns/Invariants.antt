use Rattle.std.proofs.Common.{◌≡◌, ◌≤◌, map, get_or, All}
use Rattle.std.specs.List.{range_with_len}
use Rattle.ut_resort.specs.declared.columns.Counted.{Counted}
use Rattle.ut_resort.proofs.columns.counted_columns.Given as goal

abbrev pub invariant-loop-column : goal.invariant-loop-column
invariant-loop-column l =
    (l.column ≤ l.column-end) × (map (λ (c : Counted). c.column) l.all.items ≡ range_with_len 0 l.column) × All (λ (c : Counted). c.keys ≡ get_or l.distinct c.column 0) l.all.items
