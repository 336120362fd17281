use Rattle.std.proofs.Common.{◌≡◌, ◌++◌, map, filter}
use Rattle.std.specs.List.{range_with_len}
use Rattle.ut_scan.specs.Finds.{found_at}
use Rattle.ut_scan.specs.Probes.{finds, place_in}
use Rattle.ut_scan.proofs.delta.scan_all.Given as goal

abbrev pub invariant-loop-i : goal.invariant-loop-i
invariant-loop-i l = l.out.items ≡ l.fn.out.items ++ map (found_at (place_in l.probe.stage) l.probe.l2.now.rows) (filter (finds l.probe) (range_with_len 0 l.i))
