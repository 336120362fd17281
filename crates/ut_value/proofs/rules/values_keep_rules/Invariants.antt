use Rattle.std.proofs.Common.{IsTrue, take}
use Rattle.std.specs.List.{list_all}
use Rattle.ut_value.specs.KeyBytes.{is_value}
use Rattle.ut_value.proofs.rules.values_keep_rules.Given as goal

abbrev pub invariant-loop-value : goal.invariant-loop-value
invariant-loop-value l = IsTrue (list_all is_value (take l.value-index l.values))
