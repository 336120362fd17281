use Rattle.std.proofs.Common.{◌≡◌, ◌++◌}
use Rattle.ut_l2.specs.Sources.{cells_in}
use Rattle.ut_l2.proofs.column.Column.append.Given as goal

abbrev pub invariant-loop-i : goal.invariant-loop-i
invariant-loop-i l = l.self ≡ l.fn.self ++ cells_in l.source l.column l.from l.i
