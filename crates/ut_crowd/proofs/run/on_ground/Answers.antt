use Rattle.std.proofs.Common.{sym, subst}
use Rattle.ut_crowd.specs.declared.run.Over.{Over}
use Rattle.ut_crowd.specs.Queues.{IsOver}
use Rattle.ut_crowd.proofs.run.on_ground.Goals as goal

pub returns-in-Ok-together-clause-over : goal.returns-in-Ok-together-clause-over
returns-in-Ok-together-clause-over g c = subst (λ (o : Over g.row.D.Denot). IsOver o.stopped o.engine.store o.queues.items) (sym c.apart.ensures) c.finish.ensures.over
