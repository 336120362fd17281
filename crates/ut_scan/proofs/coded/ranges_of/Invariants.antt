use Rattle.std.proofs.Common.{◌≡◌, ℕ, take}
use Rattle.ut_bits.specs.Places.{is_in}
use Rattle.ut_scan.proofs.coded.ranges_of.Given as goal

abbrev pub invariant-loop-range : goal.invariant-loop-range
invariant-loop-range g l = (code : ℕ) → is_in l.ranges.items code ≡ is_in (take l.range-index l.range-items) code
