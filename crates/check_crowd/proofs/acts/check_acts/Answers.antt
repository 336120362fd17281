use Rattle.std.proofs.Common.{arith}
use Rattle.ut_crowd.proofs.EndLemmas.{starts}
use Rattle.check_crowd.proofs.acts.check_acts.Goals as goal

pub on_ground-requires-clause-starts : goal.on_ground-requires-clause-starts
on_ground-requires-clause-starts g c κs within = starts c.args.engine.store (g.D.Disk.view c.args.engine.disk) c.args.engine.loan c.args.lines.items 1 (omega arith, omega arith) c.requires.runs
