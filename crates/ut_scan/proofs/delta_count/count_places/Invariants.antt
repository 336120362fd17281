use Rattle.std.proofs.Common.{◌≡◌, ◌≤◌, length, filter, take}
use Rattle.ut_scan.specs.Probes.{finds}
use Rattle.ut_scan.proofs.delta_count.count_places.Given as goal

abbrev pub invariant-loop-place : goal.invariant-loop-place
invariant-loop-place l = record {
  counted : l.count ≡ length (filter (finds l.probe) (take l.place-index l.places));
  within : l.count ≤ l.place-index;
}
