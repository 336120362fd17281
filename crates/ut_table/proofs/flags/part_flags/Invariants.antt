use Rattle.std.proofs.Common.{◌≡◌, ◌||◌, map, take}
use Rattle.ut_stamps.specs.Kept.{stamp_keeps}
use Rattle.ut_table.proofs.flags.part_flags.Given as goal

abbrev pub invariant-loop-i : goal.invariant-loop-i
invariant-loop-i l = l.flags.items ≡ map (λ stamp. l.stays || stamp_keeps l.fates l.snapshots stamp) (take l.i l.stamps)
