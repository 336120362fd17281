use Rattle.std.proofs.Common.{◌≡◌, ◌++◌, drop, map}
use Rattle.ut_plain.specs.Query.{column_values, with_value, total}
use Rattle.check_rows.proofs.query.groups_for.Given as goal

-- those so far and those that are left are all
abbrev pub invariant-loop-key : goal.invariant-loop-key
invariant-loop-key l = l.groups ++ map (λ k. record { key = k; sum = total (column_values l.columns l.column (with_value l.columns l.key_column k l.rows)) }) (drop l.key-index l.keys) ≡ map (λ k. record { key = k; sum = total (column_values l.columns l.column (with_value l.columns l.key_column k l.rows)) }) l.keys
