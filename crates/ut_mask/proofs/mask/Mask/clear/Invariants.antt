use Rattle.std.proofs.Common.{◌≡◌, ◌-◌, ◌≤◌, replicate, false}
use Rattle.ut_mask.specs.Mask.{kept_from}
use Rattle.ut_mask.proofs.mask.Mask.clear.Given as goal

abbrev pub invariant-loop-at : goal.invariant-loop-at
invariant-loop-at l = record {
  behind : l.from ≤ l.at;
  within : l.at ≤ l.to;
  kept : l.self ≡ kept_from l.from l.initial.self (replicate (l.at - l.from) false);
}

abbrev pub decreases-loop-at : goal.decreases-loop-at
decreases-loop-at l = l.to - l.at
