use Rattle.std.proofs.Common.{◌≡◌, ◌≤◌}
use Rattle.std.specs.List.{range_with_len}
use Rattle.ut_unsorted.proofs.order.codes_below.Given as goal

abbrev pub invariant-loop-code : goal.invariant-loop-code
invariant-loop-code l = (l.code ≤ l.len) × (l.codes.items ≡ range_with_len 0 l.code)
