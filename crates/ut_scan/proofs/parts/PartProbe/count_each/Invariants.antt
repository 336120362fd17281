use Rattle.std.proofs.Common.{◌≡◌, ◌≤◌, length, filter}
use Rattle.std.specs.List.{range_with_len}
use Rattle.ut_scan.specs.Probes.{is_seen}
use Rattle.ut_scan.proofs.parts.PartProbe.count_each.Given as goal

abbrev pub invariant-loop-i : goal.invariant-loop-i
invariant-loop-i l = record {
  counted : l.count ≡ length (filter (is_seen l.self.snapshot.now l.self.stamps.now) (range_with_len 0 l.i));
  within : l.count ≤ l.i;
}
