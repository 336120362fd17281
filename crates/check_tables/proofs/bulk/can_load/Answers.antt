use Rattle.std.proofs.Common.{arith}
use Rattle.check_tables.proofs.InsertLemmas.{can-load}
use Rattle.check_tables.proofs.bulk.can_load.Goals as goal

pub returns : goal.returns
returns g c = can-load c.args.bulk (omega arith) (omega arith) (omega arith) (omega arith) c.values_keep_rules.ensures
