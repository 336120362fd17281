use Rattle.std.proofs.Common.{◌≡◌, ◌-◌, ◌≤◌, ◌++◌, length, map, filter}
use Rattle.std.specs.List.{range_with_len}
use Rattle.ut_stamps.specs.declared.place.Place.TheVariants.{Main}
use Rattle.ut_scan.specs.Finds.{found_at}
use Rattle.ut_scan.proofs.MainLemmas.{stands_seen}
use Rattle.ut_scan.proofs.parts.PartProbe.append_standing.Given as goal

abbrev pub invariant-loop-from : goal.invariant-loop-from
invariant-loop-from l = record {
  within : l.from ≤ length l.mask;
  found : l.out.items ≡ l.fn.out.items ++ map (found_at (Main l.self.number) l.self.part.now.rows) (filter (stands_seen l.self.snapshot.now l.self.stamps.now l.mask) (range_with_len 0 l.from));
}

abbrev pub decreases-loop-from : goal.decreases-loop-from
decreases-loop-from l = length l.mask - l.from
