use Rattle.std.proofs.Common.{map, filter}
use Rattle.std.specs.List.{range_with_len}
use Rattle.ut_scan.specs.Coded.{code_at}
use Rattle.ut_scan.specs.Probes.{is_seen}
use Rattle.ut_scan.specs.Tallies.{AreMore}
use Rattle.ut_scan.proofs.parts.PartProbe.tally_each.Given as goal

abbrev pub invariant-loop-i : goal.invariant-loop-i
invariant-loop-i l = AreMore (map (λ j. code_at l.self.part.now j l.column) (filter (is_seen l.self.snapshot.now l.self.stamps.now) (range_with_len 0 l.i))) l.fn.counts l.counts
