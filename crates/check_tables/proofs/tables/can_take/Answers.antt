use Rattle.std.proofs.Common.{arith}
use Rattle.check_tables.proofs.TablesLemmas.{can_write_bulk}
use Rattle.check_tables.proofs.tables.can_take.Goals as goal

pub returns-clause-write : goal.returns-clause-write
returns-clause-write g c = can_write_bulk c.args.columns.now c.args.bulk c.can_load.ensures.width (omega (arith, c.len.ensures)) (omega arith) cc
