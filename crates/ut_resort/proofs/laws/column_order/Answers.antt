use Rattle.ut_resort.proofs.ResortLaws.{columns-by_count, columns-only}
use Rattle.ut_resort.proofs.laws.column_order.Goals as goal

pub returns-clause-by_count : goal.returns-clause-by_count
returns-clause-by_count c = columns-by_count

pub returns-clause-only : goal.returns-clause-only
returns-clause-only c = columns-only
