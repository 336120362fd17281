use Rattle.std.proofs.Common.{◌≡◌, ◌+◌, ◌≤◌, drop, length}
use Rattle.ut_plain.specs.Merges.{distinct_in}
use Rattle.check_stages.proofs.sorted.distinct_in.Given as goal

abbrev pub invariant-loop-at : goal.invariant-loop-at
invariant-loop-at l = record {
  count : l.count ≡ distinct_in (drop l.at l.places) l.column;
  few : l.count + l.at ≤ length l.places;
}
