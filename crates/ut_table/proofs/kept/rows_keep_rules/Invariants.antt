use Rattle.std.proofs.Common.{IsTrue, All, take}
use Rattle.std.specs.List.{list_all}
use Rattle.ut_value.specs.declared.value.Row.{Row}
use Rattle.ut_value.specs.KeyBytes.{is_value}
use Rattle.ut_table.proofs.kept.rows_keep_rules.Given as goal

abbrev pub invariant-loop-row : goal.invariant-loop-row
invariant-loop-row l = All (λ (r : Row). IsTrue (list_all is_value r.values)) (take l.row-index l.rows)
