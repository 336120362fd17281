use Rattle.std.proofs.Common.{◌-◌, ◌<◌, ◌≤◌, length, get_or, map}
use Rattle.ut_rle.proofs.scan.run_at.Given as goal

abbrev pub invariant-loop-low : goal.invariant-loop-low
invariant-loop-low l = record {
  ordered : l.low ≤ l.high;
  within : l.high < length l.runs;
  before : 0 < l.low → get_or (map (λ r. r.end) l.runs) (l.low - 1) 0 ≤ l.i;
  holds : l.i < get_or (map (λ r. r.end) l.runs) l.high 0;
}

abbrev pub decreases-loop-low : goal.decreases-loop-low
decreases-loop-low l = l.high - l.low
