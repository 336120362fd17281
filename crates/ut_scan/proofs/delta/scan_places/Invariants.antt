use Rattle.std.proofs.Common.{◌≡◌, ◌++◌, map, filter, take}
use Rattle.ut_scan.specs.Finds.{found_at}
use Rattle.ut_scan.specs.Probes.{finds, place_in}
use Rattle.ut_scan.proofs.delta.scan_places.Given as goal

abbrev pub invariant-loop-place : goal.invariant-loop-place
invariant-loop-place l = l.out.items ≡ l.fn.out.items ++ map (found_at (place_in l.probe.stage) l.probe.l2.now.rows) (filter (finds l.probe) (take l.place-index l.places))
