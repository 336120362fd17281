use Rattle.std.proofs.Common.{◌≡◌, ◌*◌, drop, pos, ◌+ℤ◌, neg_ℤ, ◌≤ℤ◌}
use Rattle.ut_plain.specs.Query.{total}
use Rattle.check_rows.proofs.values.total.Given as goal

abbrev pub invariant-loop-value : goal.invariant-loop-value
invariant-loop-value l = record {
  sum : l.sum +ℤ total (drop l.value-index l.values) ≡ total l.values;
  low : neg_ℤ (pos (9223372036854775808 * l.value-index)) ≤ℤ l.sum;
  high : l.sum ≤ℤ pos (9223372036854775808 * l.value-index);
}
