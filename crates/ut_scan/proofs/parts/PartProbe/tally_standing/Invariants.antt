use Rattle.std.proofs.Common.{◌-◌, ◌≤◌, length, map, filter}
use Rattle.std.specs.List.{range_with_len}
use Rattle.ut_scan.specs.Coded.{code_at}
use Rattle.ut_scan.specs.Tallies.{AreMore}
use Rattle.ut_scan.proofs.MainLemmas.{stands_seen}
use Rattle.ut_scan.proofs.parts.PartProbe.tally_standing.Given as goal

abbrev pub invariant-loop-from : goal.invariant-loop-from
invariant-loop-from l = record {
  within : l.from ≤ length l.mask;
  counted : AreMore (map (λ j. code_at l.self.part.now j l.column) (filter (stands_seen l.self.snapshot.now l.self.stamps.now l.mask) (range_with_len 0 l.from))) l.fn.counts l.counts;
}

abbrev pub decreases-loop-from : goal.decreases-loop-from
decreases-loop-from l = length l.mask - l.from
