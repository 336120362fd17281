use Rattle.std.proofs.Common.{◌≡◌, ℕ, ◌≤◌, List, length, take, get_or}
use Rattle.std.specs.List.{flat_map, range_with_len, sum_by}
use Rattle.ut_l2.specs.KeyRows.{KeyRow}
use Rattle.ut_scan.specs.Coded.{keys_in}
use Rattle.ut_scan.specs.StageRows.{found_in_part}
use Rattle.ut_scan.specs.Tallies.{Tallies}
use Rattle.ut_scan.proofs.part_tally.tally_parts.Given as goal

abbrev pub invariant-loop-number : goal.invariant-loop-number
invariant-loop-number g l = record {
  told : Tallies l.main l.column (flat_map (found_in_part l.snapshot.fates.now l.snapshot.at l.snapshot.own l.preds l.main.parts l.stamps.parts) (range_with_len 0 l.number)) l.counts.items;
  size : length l.counts.items ≡ length (keys_in l.main l.column);
  few : (code : ℕ) → get_or l.counts.items code 0 ≤ sum_by (λ (rows : List KeyRow). length rows) (take l.number l.main.parts);
}
