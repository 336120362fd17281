use Rattle.std.proofs.Common.{◌≡◌, ◌≤◌, length, filter}
use Rattle.std.specs.List.{range_with_len}
use Rattle.ut_scan.specs.Probes.{finds}
use Rattle.ut_scan.proofs.delta_count.count_all.Given as goal

abbrev pub invariant-loop-i : goal.invariant-loop-i
invariant-loop-i l = record {
  counted : l.count ≡ length (filter (finds l.probe) (range_with_len 0 l.i));
  within : l.count ≤ l.i;
}
