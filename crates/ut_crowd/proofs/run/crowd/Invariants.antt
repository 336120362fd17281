use Rattle.ut_crowd.proofs.EndLemmas.{ground_of}
use Rattle.ut_crowd.proofs.run.crowd.Given as goal

abbrev pub ghosts-on_ground : goal.ghosts-on_ground
ghosts-on_ground g a = record { ground = ground_of a.engine.store (g.D.Disk.view a.engine.disk) a.engine.loan a.lines.items a.l1 }
