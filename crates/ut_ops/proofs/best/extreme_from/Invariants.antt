use Rattle.std.proofs.Common.{◌≡◌, drop, map, IsTrue}
use Rattle.ut_names.specs.Resolved.{beats}
use Rattle.ut_plain.specs.Query.{best_from}
use Rattle.ut_staged.specs.Staged.{row_at}
use Rattle.ut_ops.specs.Fit.{cell, is_row}
use Rattle.ut_ops.proofs.best.extreme_from.Given as goal

-- the best so far, and then of those that are left
abbrev pub invariant-loop-hit : goal.invariant-loop-hit
invariant-loop-hit l = record {
  fits : IsTrue (is_row l.table.stages.columns (row_at l.table.stages l.best.place));
  best : best_from (beats l.end) (cell l.table.stages l.column l.best) (map (cell l.table.stages l.column) (drop l.hit-index l.rest)) ≡ best_from (beats l.end) (cell l.table.stages l.column l.fn.first) (map (cell l.table.stages l.column) l.rest);
}
