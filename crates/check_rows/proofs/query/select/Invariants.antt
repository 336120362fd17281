use Rattle.std.proofs.Common.{◌≡◌, ◌++◌, drop, map}
use Rattle.ut_plain.specs.Query.{picked}
use Rattle.check_rows.proofs.query.select.Given as goal

-- those so far and those that are left are all
abbrev pub invariant-loop-row : goal.invariant-loop-row
invariant-loop-row l = l.tuples ++ map (λ e. picked l.columns l.names e.1.values) (drop l.row-index l.rows) ≡ map (λ e. picked l.columns l.names e.1.values) l.rows
