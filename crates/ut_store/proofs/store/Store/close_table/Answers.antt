use Rattle.std.proofs.Common.{ap, ◌∙◌, slice_get}
use Rattle.ut_plain.specs.declared.stage.PendingMerge.{PendingMerge}
use Rattle.ut_tables.specs.Merging.{job_at}
use Rattle.ut_store.specs.Held.{Held}
use Rattle.ut_store.specs.contracts.store.Store.{the_view}
use Rattle.ut_store.proofs.IndexLemmas.{on_err, seats_itself, same_room}
use Rattle.ut_store.proofs.JobLemmas.{may_close, begun_now}
use Rattle.ut_store.proofs.store.Store.close_table.Goals as goal

pub close-requires : goal.close-requires
close-requires c = may_close (the_view c.self.inside) c.args.self.now c.args.place c.args.kind c.deref.result.now c.self.view_is c.requires.may (c.deref.ensures.value ∙ c.in_ok-snapshots.ensures)

pub returns-in_err-job-clause-err : goal.returns-in_err-job-clause-err
returns-in_err-job-clause-err c = on_err _ _ (same_room (the_view c.self.inside) _ c.close.new.self.rows _ c.self.view_is c.in_err-job.ensures.err (seats_itself _))

pub returns-clause-ok : goal.returns-clause-ok
returns-clause-ok c = λ s is.
    begun_now (the_view c.self.inside) c.args.self.now c.close.new.self.rows c.args.place c.args.kind s c.deref.result.now c.in_ok-pending.pending c.in_ok-begun.begun.payload
    c.self.view_is (ap (λ (h : Held). slice_get h.rows.staged c.args.place) c.self.view_is ∙ is) (c.deref.ensures.value ∙ c.in_ok-snapshots.ensures) c.in_ok-job.ensures.ok c.in_ok-pending.ensures c.in_ok-begun.ensures

pub returns-clause-job : goal.returns-clause-job
returns-clause-job c = ap (λ (m : PendingMerge). job_at c.close.new.self.rows m.table) c.in_ok-pending.ensures ∙ c.in_ok-job.ensures.job
