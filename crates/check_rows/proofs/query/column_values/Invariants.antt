use Rattle.std.proofs.Common.{◌≡◌, ◌++◌, drop}
use Rattle.ut_plain.specs.Query.{column_values}
use Rattle.check_rows.proofs.query.column_values.Given as goal

-- those so far and those that are left are all
abbrev pub invariant-loop-row : goal.invariant-loop-row
invariant-loop-row l = l.values.items ++ column_values l.columns l.name (drop l.row-index l.rows) ≡ column_values l.columns l.name l.rows
