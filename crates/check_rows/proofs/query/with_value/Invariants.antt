use Rattle.std.proofs.Common.{◌≡◌, ◌++◌, drop}
use Rattle.ut_plain.specs.Query.{with_value}
use Rattle.check_rows.proofs.query.with_value.Given as goal

-- those so far and those that are left are all
abbrev pub invariant-loop-row : goal.invariant-loop-row
invariant-loop-row l = l.hits.items ++ with_value l.columns l.name l.key (drop l.row-index l.rows) ≡ with_value l.columns l.name l.key l.rows
