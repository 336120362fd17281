use Rattle.ut_crowd.specs.Standing.{StandsOn}
use Rattle.ut_crowd.proofs.run.finish.Given as goal

abbrev pub invariant-loop : goal.invariant-loop
invariant-loop g l = StandsOn g.O.Opening.ground l.hall.queues.items l.hall.book.items l.hall.engine.loan (g.D.Disk.view l.hall.engine.disk) l.hall.engine.store l.hall.job l.hall.l1 l.hall.last
