use Rattle.std.proofs.Common.{arith}
use Rattle.ut_value.proofs.OneSpelling.{count_fits}
use Rattle.ut_entry.proofs.write.put_entry.Goals as goal

pub overflow_cast-count : goal.overflow_cast-count
overflow_cast-count c = omega (arith, count_fits c.args.entry.now c.in-Txn.ops c.len-count.result c.requires.rule c.in-Txn.is c.len-count.ensures)
