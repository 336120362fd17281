use Rattle.std.proofs.Common.{◌≡◌, ◌++◌, map, filter}
use Rattle.std.specs.List.{range_with_len}
use Rattle.ut_stamps.specs.declared.place.Place.TheVariants.{Main}
use Rattle.ut_scan.specs.Probes.{is_seen}
use Rattle.ut_scan.specs.Finds.{found_at}
use Rattle.ut_scan.proofs.parts.PartProbe.append_all.Given as goal

abbrev pub invariant-loop-i : goal.invariant-loop-i
invariant-loop-i l = l.out.items ≡ l.fn.out.items ++ map (found_at (Main l.self.number) l.self.part.now.rows) (filter (is_seen l.self.snapshot.now l.self.stamps.now) (range_with_len 0 l.i))
