use Rattle.std.proofs.Common.{◌≡◌, ◌≤◌, ◌*◌, ◌^◌, length}
use Rattle.std.specs.List.{flat_map, range_with_len}
use Rattle.ut_scan.specs.StageRows.{found_in_part}
use Rattle.ut_scan.proofs.part_count.count_parts.Given as goal

abbrev pub invariant-loop-number : goal.invariant-loop-number
invariant-loop-number g l = record {
  counted : l.count ≡ length (flat_map (found_in_part l.snapshot.fates.now l.snapshot.at l.snapshot.own l.preds l.main.parts l.stamps.parts) (range_with_len 0 l.number));
  few : l.count ≤ l.number * 2 ^ 32;
}
