use Rattle.std.proofs.Common.{◌≡◌, ◌≤◌, None, length, filter, take}
use Rattle.ut_stamps.specs.Stamps.{sees}
use Rattle.ut_capture.proofs.deltas.live_count.Given as goal

abbrev pub invariant-loop-stamp : goal.invariant-loop-stamp
invariant-loop-stamp l = (l.count ≡ length (filter (sees l.fates l.entries None) (take l.stamp-index l.stamps))) × (l.count ≤ l.stamp-index)
