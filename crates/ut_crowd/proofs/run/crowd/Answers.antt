use Rattle.std.proofs.Common.{◌⊎◌, List, sym, subst}
use Rattle.std.specs.Prelude.{IsTrue}
use Rattle.ut_engine.specs.Lent.{Lent}
use Rattle.ut_crowd.specs.declared.book.Turn.{Turn}
use Rattle.ut_crowd.specs.Crowding.{Crowded}
use Rattle.ut_crowd.proofs.EndLemmas.{starts, crowded}
use Rattle.ut_crowd.proofs.run.crowd.Goals as goal

pub on_ground-requires-clause-starts : goal.on_ground-requires-clause-starts
on_ground-requires-clause-starts g c κs within = starts c.args.engine.store (g.D.Disk.view c.args.engine.disk) c.args.engine.loan c.args.lines.items c.args.l1 c.requires.range c.requires.runs

pub returns-in-Ok-clause-ran : goal.returns-in-Ok-clause-ran
returns-in-Ok-clause-ran g c =
    let over = c.in-Ok.over in
    let r = c.ending.result in
    let s = c.in-Ok.ensures.stands in
    let store = c.args.engine.store in
    let disk = g.D.Disk.view c.args.engine.disk in
    let lines = c.args.lines.items in
    let cause = subst (λ (e : Lent g.row.D.Denot). IsTrue r.all ⊎ (IsTrue r.stopped ⊎ IsTrue e.store.down)) c.ending.ensures.engine c.ending.ensures.cause in
    subst (λ (book : List Turn). Crowded store disk c.args.l1 lines book r.all r.stopped r.engine.store (g.D.Disk.view r.engine.disk)) (sym c.ending.ensures.book)
    (subst (λ (e : Lent g.row.D.Denot). Crowded store disk c.args.l1 lines over.book.items r.all r.stopped e.store (g.D.Disk.view e.disk)) (sym c.ending.ensures.engine)
    (crowded store over.engine.store disk (g.D.Disk.view over.engine.disk) c.args.engine.loan over.engine.loan lines over.queues.items over.book.items s.0 c.args.l1 s.1 s.2 r.all r.stopped s.3 c.ending.ensures.all cause))
