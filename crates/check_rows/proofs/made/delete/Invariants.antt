use Rattle.std.proofs.Common.{◌≡◌, ◌++◌, drop}
use Rattle.ut_plain.specs.Made.{deletes_all}
use Rattle.check_rows.proofs.made.delete.Given as goal

abbrev pub invariant-loop-row : goal.invariant-loop-row
invariant-loop-row l = l.ops ++ deletes_all l.table (drop l.row-index l.rows) ≡ deletes_all l.table l.rows
