use Rattle.std.proofs.Common.{◌≡◌, ◌++◌, map, filter}
use Rattle.std.specs.List.{range_with_len}
use Rattle.ut_l2.specs.KeyRows.{keyed}
use Rattle.ut_stamps.specs.declared.place.Place.TheVariants.{L1}
use Rattle.ut_scan.specs.Finds.{found_at, is_hit}
use Rattle.ut_scan.proofs.rows.scan_rows.Given as goal

abbrev pub invariant-loop-i : goal.invariant-loop-i
invariant-loop-i l =
    let rows = map keyed l.rows in
    l.out.items ≡ l.fn.out.items ++ map (found_at L1 rows) (filter (is_hit l.snapshot.fates.now l.snapshot.at l.snapshot.own l.preds rows l.stamps) (range_with_len 0 l.i))
