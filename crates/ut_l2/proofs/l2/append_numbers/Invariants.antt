use Rattle.std.proofs.Common.{◌≡◌, ◌++◌, ◌≤◌, ◌+◌, ◌-◌, vec_len, vec_capacity}
use Rattle.std.specs.List.{range_with_len}
use Rattle.ut_l2.proofs.l2.append_numbers.Given as goal

abbrev pub invariant-loop-i : goal.invariant-loop-i
invariant-loop-i l = record {
  room : vec_len l.ids + (l.n - l.i) ≤ vec_capacity l.ids;
  ids : l.ids.items ≡ l.fn.ids.items ++ range_with_len l.first l.i;
}
