use Rattle.ut_merge.specs.Jobs.{new_rows}
use Rattle.ut_merge.specs.NewRows.{AreColumns}
use Rattle.ut_merge.proofs.building.columns_of.Given as goal

abbrev pub invariant-loop-column : goal.invariant-loop-column
invariant-loop-column l = AreColumns l.job (new_rows l.job) l.column l.columns.items
