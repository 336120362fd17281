use Rattle.std.proofs.Common.{◌≡◌, map, take}
use Rattle.ut_stamps.specs.Kept.{stamp_keeps}
use Rattle.ut_table.proofs.flags.list_flags.Given as goal

abbrev pub invariant-loop-stamp : goal.invariant-loop-stamp
invariant-loop-stamp l = l.flags.items ≡ map (stamp_keeps l.fates l.snapshots) (take l.stamp-index l.stamps)
