use Rattle.ut_engine.proofs.RestoringLemmas.{opened_restores}
use Rattle.ut_engine.proofs.engine.Engine.open.Goals as goal

pub returns-in-Ok-clause-restores : goal.returns-in-Ok-clause-restores
returns-in-Ok-clause-restores g c =
    opened_restores c.in-Ok.store c.args.rows (g.D.Disk.view c.args.disk.now) (g.D.Disk.view c.open.new.disk) c.in-Ok.ensures.opens
