use Rattle.std.proofs.Common.{◌≡◌, ◌*◌, drop, map, pos, ◌+ℤ◌, neg_ℤ, ◌≤ℤ◌}
use Rattle.ut_plain.specs.Query.{total}
use Rattle.ut_ops.specs.Fit.{cell}
use Rattle.ut_ops.specs.Noted.{AreNoted}
use Rattle.ut_ops.proofs.sums.sum_at.Given as goal

abbrev pub invariant-loop-hit : goal.invariant-loop-hit
invariant-loop-hit l = record {
  noted : AreNoted l.table.stages l.column l.notes;
  sum : l.sum +ℤ total (map (cell l.table.stages l.column) (drop l.hit-index l.hits)) ≡ total (map (cell l.table.stages l.column) l.hits);
  low : neg_ℤ (pos (9223372036854775808 * l.hit-index)) ≤ℤ l.sum;
  high : l.sum ≤ℤ pos (9223372036854775808 * l.hit-index);
}
