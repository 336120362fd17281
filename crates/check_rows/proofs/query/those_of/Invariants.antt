use Rattle.std.proofs.Common.{◌≡◌, ◌++◌, drop}
use Rattle.ut_plain.specs.Rows.{table_rows}
use Rattle.ut_plain.specs.Condition.{those}
use Rattle.check_rows.proofs.query.those_of.Given as goal

-- those so far and those that are left are all
abbrev pub invariant-loop-row : goal.invariant-loop-row
invariant-loop-row l = l.hits.items ++ those l.columns l.preds (table_rows l.place (drop l.row-index l.rows)) ≡ those l.columns l.preds (table_rows l.place l.rows)
