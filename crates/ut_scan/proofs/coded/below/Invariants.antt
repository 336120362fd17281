use Rattle.std.proofs.Common.{◌≡◌, ℕ, ◌<◌, ◌≤◌, length, take}
use Rattle.ut_bits.specs.Places.{is_in}
use Rattle.ut_scan.proofs.coded.below.Given as goal

abbrev pub invariant-loop-n : goal.invariant-loop-n
invariant-loop-n l = record {
  within : l.n ≤ length l.ranges;
  same : (code : ℕ) → code < l.reach → is_in (take l.n l.ranges) code ≡ is_in l.ranges code;
}

abbrev pub decreases-loop-n : goal.decreases-loop-n
decreases-loop-n l = l.n
