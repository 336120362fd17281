use Rattle.std.proofs.Common.{IsTrue, take}
use Rattle.std.specs.List.{list_all}
use Rattle.ut_value.specs.Spelling.{is_column}
use Rattle.ut_value.proofs.rules.columns_keep_rules.Given as goal

abbrev pub invariant-loop-column : goal.invariant-loop-column
invariant-loop-column l = IsTrue (list_all is_column (take l.column-index l.columns))
