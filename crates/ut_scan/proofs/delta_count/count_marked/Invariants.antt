use Rattle.std.proofs.Common.{◌≡◌, ◌≤◌, ◌&&◌, length, filter}
use Rattle.std.specs.List.{range_with_len}
use Rattle.ut_scan.specs.Finds.{meets_at}
use Rattle.ut_scan.specs.Probes.{finds}
use Rattle.ut_scan.proofs.delta_count.count_marked.Given as goal

abbrev pub invariant-loop-i : goal.invariant-loop-i
invariant-loop-i l = record {
  counted : l.count ≡ length (filter (λ i. meets_at l.pred l.probe.l2.now.rows i && finds l.probe i) (range_with_len 0 l.i));
  within : l.count ≤ l.i;
}
