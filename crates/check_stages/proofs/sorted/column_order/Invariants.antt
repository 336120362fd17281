use Rattle.std.proofs.Common.{◌≡◌, ◌-◌}
use Rattle.std.specs.List.{range_with_len}
use Rattle.ut_plain.specs.Merges.{in_order, comes_first, width_of}
use Rattle.check_stages.proofs.sorted.column_order.Given as goal

abbrev pub invariant-loop-column : goal.invariant-loop-column
invariant-loop-column l = l.order.items ≡ in_order (comes_first l.places) (range_with_len l.column (width_of l.places - l.column))
