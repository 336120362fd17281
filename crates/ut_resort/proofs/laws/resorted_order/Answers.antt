use Rattle.ut_resort.proofs.ResortLaws.{row_cmp-keys, rows-only}
use Rattle.ut_resort.proofs.laws.resorted_order.Goals as goal

pub returns-clause-keys : goal.returns-clause-keys
returns-clause-keys c = row_cmp-keys

pub returns-clause-only : goal.returns-clause-only
returns-clause-only c = rows-only
