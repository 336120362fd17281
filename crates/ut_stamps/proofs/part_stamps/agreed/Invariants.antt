use Rattle.std.proofs.Common.{◌≡◌, replicate, take}
use Rattle.ut_stamps.proofs.part_stamps.agreed.Given as goal

abbrev pub invariant-loop-stamp : goal.invariant-loop-stamp
invariant-loop-stamp l = take l.stamp-index l.stamps ≡ replicate l.stamp-index l.first
