use Rattle.ut_crowd.proofs.EndLemmas.{ground_of}
use Rattle.check_crowd.proofs.acts.check_acts.Given as goal

abbrev pub ghosts-on_ground : goal.ghosts-on_ground
ghosts-on_ground g a = record { ground = ground_of a.engine.store (g.D.Disk.view a.engine.disk) a.engine.loan a.lines.items 1 }
