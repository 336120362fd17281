use Rattle.std.proofs.Common.{◌≡◌, sym, subst, ap, ◌∙◌}
use Rattle.ut_crew.specs.declared.role.Went.{Went}
use Rattle.ut_crowd.specs.Going.{goes_on}
use Rattle.ut_crowd.specs.Waking.{Wakes}
use Rattle.ut_crowd.proofs.WakeLemmas.{goes_by, wakes_by}
use Rattle.ut_crowd.proofs.advance.AdvanceActHall.run.Goals as goal

pub returns-clause-done : goal.returns-clause-done
returns-clause-done g c =
    let more = c.advance-more.result in
    let due = c.calls_keeper-due.result in
    let y = c.advance-more.new.self in
    let disk = g.D.Disk.view y.engine.disk in
    let goes : goes_on c.went_of.result ≡ more = ap goes_on c.went_of.ensures ∙ goes_by more due in (
      λ over. c.advance-more.ensures.done (sym goes ∙ over),
      λ on. c.advance-more.ensures.turn (sym goes ∙ on),
      c.advance-more.ensures.dated,
      c.advance-more.ensures.waits,
      subst (λ (w : Went). Wakes y.l1 y.last y.save_waits y.engine.store disk w) (sym c.went_of.ensures)
          (wakes_by y.l1 y.last y.save_waits y.engine.store disk y.stopped more due (λ is. (c.advance-more.ensures.turn is).1) c.calls_keeper-due.ensures.called c.calls_keeper-due.ensures.up),
    )
