use Rattle.std.proofs.Common.{◌≡◌, ◌++◌, ◌&&◌, map, filter}
use Rattle.std.specs.List.{range_with_len}
use Rattle.ut_scan.specs.Finds.{found_at, meets_at}
use Rattle.ut_scan.specs.Probes.{finds, place_in}
use Rattle.ut_scan.proofs.delta.scan_marked.Given as goal

abbrev pub invariant-loop-i : goal.invariant-loop-i
invariant-loop-i l =
    let rows = l.probe.l2.now.rows in
    l.out.items ≡ l.fn.out.items ++ map (found_at (place_in l.probe.stage) rows) (filter (λ i. meets_at l.pred rows i && finds l.probe i) (range_with_len 0 l.i))
