use Rattle.std.proofs.Common.{◌≡◌, ◌∙◌, None, Some, sym, ap, subst}
use Rattle.ut_tables.specs.Works.{ops_in}
use Rattle.ut_txn.specs.Seats.{opened_at}
use Rattle.ut_store.specs.declared.outcome.Outcome.{Outcome}
use Rattle.ut_store.specs.Held.{Held}
use Rattle.ut_store.specs.Works.{AnswersWork}
use Rattle.ut_store.proofs.FinishLemmas.{same_stays, some_of}
use Rattle.ut_store.proofs.ExecutedLemmas.{work_alone, work_appends, work_can, work_fits, work_inside, work_lacks, work_nothing, work_refused}
use Rattle.ut_store.proofs.LoadLemmas.{changes_are}
use Rattle.ut_store.proofs.store.Store.finish.Goals as goal
use Rattle.ut_store.proofs.store.Store.finish.Goals.{in-Err-work_alone, in-Ok-work_alone}

pub measured-requires-clause-seat : goal.measured-requires-clause-seat
measured-requires-clause-seat c = c.requires.asked.may.seat

pub measured-requires-clause-rule : goal.measured-requires-clause-rule
measured-requires-clause-rule c = c.requires.ready.suits.rule

pub measured-requires-clause-places : goal.measured-requires-clause-places
measured-requires-clause-places c = let r = c.requires.ready.suits in record { table = r.table; at = r.at; has = r.there }

pub measured-requires-clause-are : goal.measured-requires-clause-are
measured-requires-clause-are c = changes_are c.args.self.now.rows c.args.work.place c.args.work.changes c.requires.ready.loads

pub returns-in-Err : goal.returns-in-Err
returns-in-Err c = work_refused c.args.self.now c.args.session c.args.work c.requires.asked c.requires.ready c.in-Err.why c.in-Err.ensures.err

pub opened-requires : goal.opened-requires
opened-requires c = c.requires.asked.may.seat

-- ---- in a transaction

pub work_inside-requires-clause-seat : goal.work_inside-requires-clause-seat
work_inside-requires-clause-seat c = c.requires.asked.may.seat

pub work_inside-requires-clause-can : goal.work_inside-requires-clause-can
work_inside-requires-clause-can c = work_can c.args.self.now c.args.session c.args.work c.requires.asked c.requires.ready c.in-Ok.ensures.ok

pub work_inside-requires-clause-size : goal.work_inside-requires-clause-size
work_inside-requires-clause-size c = work_fits c.args.self.now c.args.session c.args.work c.requires.asked c.requires.ready c.in-Ok.ensures.ok c.in-Ok.bytes c.in-Ok.ensures.bytes

pub returns-in-Ok-work_inside : goal.returns-in-Ok-work_inside
returns-in-Ok-work_inside c =
    work_inside c.args.self.now c.args.session c.args.work c.requires.asked c.requires.ready c.in-Ok.ensures.ok c.work_inside.new.self c.in-Some.opened
    (subst (λ (h : Held). opened_at h.seats c.args.session ≡ Some c.in-Some.opened) c.self.view_is (sym c.in-Some.ensures)) c.in-Ok-work_inside.ensures.ok

pub returns-in-Err-work_inside : goal.returns-in-Err-work_inside
returns-in-Err-work_inside c =
    work_lacks c.args.self.now c.args.session c.args.work c.requires.asked c.requires.ready c.work_inside.new.self c.no_memory.result c.no_memory.ensures
    (same_stays c.args.self.now c.work_inside.new.self c.in-Err-work_inside.ensures.err)

-- ---- alone

pub is_empty-requires : goal.is_empty-requires
is_empty-requires c = changes_are c.args.self.now.rows c.args.work.place c.args.work.changes c.requires.ready.loads

pub returns-then-is_empty : goal.returns-then-is_empty
returns-then-is_empty c =
    work_nothing c.args.self.now c.args.session c.args.work c.requires.asked c.requires.ready c.in-Ok.ensures.ok
    (subst (λ (h : Held). opened_at h.seats c.args.session ≡ None) c.self.view_is (sym c.in-None.ensures)) (c.is_empty.ensures.0 c.if-is_empty.true)

pub work_alone-requires-clause-can : goal.work_alone-requires-clause-can
work_alone-requires-clause-can c = work_can c.args.self.now c.args.session c.args.work c.requires.asked c.requires.ready c.in-Ok.ensures.ok

pub work_alone-requires-clause-journal : goal.work_alone-requires-clause-journal
work_alone-requires-clause-journal c =
    work_appends c.args.self.now c.args.session c.args.work c.requires.asked c.requires.ready c.in-Ok.ensures.ok
    (subst (λ (h : Held). opened_at h.seats c.args.session ≡ None) c.self.view_is (sym c.in-None.ensures)) (some_of (ops_in c.args.work.changes) c.is_empty.result c.is_empty.ensures c.if-is_empty.false)

pub returns-after-work_alone : goal.returns-after-work_alone
returns-after-work_alone c =
    let e = c.args.self.now in
    let closed = subst (λ (h : Held). opened_at h.seats c.args.session ≡ None) c.self.view_is (sym c.in-None.ensures) in
    let some = some_of (ops_in c.args.work.changes) c.is_empty.result c.is_empty.ensures c.if-is_empty.false in
    elim c.match-work_alone.branch [
      | in-Ok-work_alone w ↦
          subst (λ (o : Outcome). AnswersWork e c.args.session c.args.work o c.work_alone.new.self) (sym w.result-is)
          (work_alone e c.args.session c.args.work c.requires.asked c.requires.ready c.in-Ok.ensures.ok c.work_alone.new.self c.self-in-None.inside.counts.commits closed some w.in-Ok-work_alone.ensures.ok
          (ap (λ (h : Held). h.counts.commits) c.self-in-None.view_is))
      | in-Err-work_alone w ↦
          work_lacks e c.args.session c.args.work c.requires.asked c.requires.ready c.work_alone.new.self c.match-work_alone.result (w.result-is ∙ w.no_memory-in-Err-work_alone.ensures) w.in-Err-work_alone.ensures.err
    ]
