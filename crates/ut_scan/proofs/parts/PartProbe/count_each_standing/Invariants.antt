use Rattle.std.proofs.Common.{◌≡◌, ◌-◌, ◌≤◌, length, filter}
use Rattle.std.specs.List.{range_with_len}
use Rattle.ut_scan.proofs.MainLemmas.{stands_seen}
use Rattle.ut_scan.proofs.parts.PartProbe.count_each_standing.Given as goal

abbrev pub invariant-loop-from : goal.invariant-loop-from
invariant-loop-from l = record {
  within : l.from ≤ length l.mask;
  counted : l.count ≡ length (filter (stands_seen l.self.snapshot.now l.self.stamps.now l.mask) (range_with_len 0 l.from));
  few : l.count ≤ l.from;
}

abbrev pub decreases-loop-from : goal.decreases-loop-from
decreases-loop-from l = length l.mask - l.from
