use Rattle.std.proofs.Common.{◌≡◌, ◌≤◌, length, map, filter}
use Rattle.std.specs.List.{range_with_len}
use Rattle.ut_l2.specs.KeyRows.{keyed}
use Rattle.ut_scan.specs.Finds.{is_hit}
use Rattle.ut_scan.proofs.rows.count_rows.Given as goal

abbrev pub invariant-loop-i : goal.invariant-loop-i
invariant-loop-i l = record {
  counted : l.count ≡ length (filter (is_hit l.snapshot.fates.now l.snapshot.at l.snapshot.own l.preds (map keyed l.rows) l.stamps) (range_with_len 0 l.i));
  within : l.count ≤ l.i;
}
