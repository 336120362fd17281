use Rattle.ut_crowd.proofs.StandLemmas.{starts_stand}
use Rattle.ut_crowd.proofs.hall.hall_of.Goals as goal

pub returns-clause-stands : goal.returns-clause-stands
returns-clause-stands g c =
    starts_stand g.O.Opening.ground c.args.lines.items c.in-Ok.queues.items c.in-Ok.book.items c.journal_len-journal.result c.moment.result c.args.engine.loan (g.D.Disk.view c.args.engine.disk) c.args.engine.store c.args.l1
    c.journal_len-journal.ensures c.moment.ensures (g.met.D.Disk.only_now c.args.engine.disk) (g.met.D.Disk.counts_now c.args.engine.disk) (g.met.D.Disk.seen_stays c.args.engine.disk) c.in-Ok.ensures c.requires.starts
