use Rattle.std.proofs.Common.{◌≡◌, ◌+◌, ◌++◌, drop}
use Rattle.ut_plain.specs.Made.{updates, changed_value}
use Rattle.check_rows.proofs.made.update.Given as goal

abbrev pub invariant-loop-row : goal.invariant-loop-row
invariant-loop-row l = record {
  made : l.ops ++ updates l.table l.id (changed_value l.columns l.name l.value) (drop l.row-index l.rows) ≡ updates l.table l.next (changed_value l.columns l.name l.value) l.rows;
  ids : l.id ≡ l.next + l.row-index;
}
