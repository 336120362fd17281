use Rattle.std.proofs.Common.{ℕ, ◌≡◌, ◌+◌, ◌<◌, get_or, length}
use Rattle.ut_rows.specs.Columns.{value_in}
use Rattle.ut_reply.specs.Columns.{IsText}
use Rattle.ut_reply.proofs.columns.texts_of.Given as goal

abbrev pub invariant-loop-value : goal.invariant-loop-value
invariant-loop-value l = record {
  many : length l.bounds.items ≡ l.value-index + 1;
  last : get_or l.bounds.items l.value-index 0 ≡ length l.bytes.items;
  each : (place : ℕ) → place < l.value-index → IsText l.lead (value_in l.values place) l.bytes.items l.bounds.items place;
}
