use Rattle.std.proofs.Common.{ℕ, ◌≡◌, ◌∙◌, Some, refl, sym, ap, subst, slice_get, slice_set}
use Rattle.std.proofs.lemmas.Result.{on_ok_weaker, on_err_weaker, IfOk-weaker}
use Rattle.std.specs.Option.{option_and_then}
use Rattle.ut_staged.specs.Staged.{closed_l2}
use Rattle.ut_table.specs.Pending.{pending_job}
use Rattle.ut_tables.specs.Changed.{Changed}
use Rattle.ut_tables.specs.Merging.{flags_now}
use Rattle.ut_tables.specs.Rows.{RowsValue}
use Rattle.ut_tables.specs.contracts.rows.Rows.{the_view}
use Rattle.ut_tables.proofs.IndexLemmas.{stages_in, changed_to, kept_as, read_is, there_now}
use Rattle.ut_tables.proofs.JobLemmas.{is_job_read}
use Rattle.ut_tables.proofs.rows.Rows.close.Goals as goal

pub close_l2-requires-clause-job : goal.close_l2-requires-clause-job
close_l2-requires-clause-job c =
    let r = c.args.self.now.rows in
    let at : slice_get r.staged c.from.result ≡ Some c.requires.table = ap (slice_get r.staged) c.from.ensures ∙ c.requires.at in
    is_job_read r c.args.snapshots.now c.args.head c.index_mut-table.result.now.stages c.in_ok-keep.keep c.requires
    (read_is (the_view c.self.inside) _ c.self.inside.stages.items c.from.result c.index_mut-table.result.now c.index_mut-table.result.now c.self.view_is refl c.index_mut-table.ensures.value c.requires.table at)
    (c.in_ok-keep.ensures ∙ ap (λ (x : RowsValue). flags_now x.rows c.args.snapshots.now c.args.head.kind c.index_mut-table.result.now.stages) c.self.view_is)

pub returns-clause-ok : goal.returns-clause-ok
returns-clause-ok c =
    let r = c.args.self.now.rows in
    let read = c.index_mut-table.result.now in
    let keep : c.in_ok-keep.keep ≡ flags_now r c.args.snapshots.now c.args.head.kind read.stages = c.in_ok-keep.ensures ∙ ap (λ (x : RowsValue). flags_now x.rows c.args.snapshots.now c.args.head.kind read.stages) c.self.view_is in
    on_ok_weaker c.close_l2.result
    (λ closed. subst (λ (n : ℕ). Changed r n (λ s. closed_l2 c.args.head (flags_now r c.args.snapshots.now c.args.head.kind s) s) (record (the_view c.self.inside).rows { staged = stages_in (slice_set c.self.inside.stages.items c.from.result c.close_l2.new.self) })) c.from.ensures
    (changed_to (the_view c.self.inside) _ c.self.inside.stages.items c.from.result read c.close_l2.new.self c.self.view_is refl c.index_mut-table.ensures.value (λ s. closed_l2 c.args.head (flags_now r c.args.snapshots.now c.args.head.kind s) s)
    (closed ∙ ap (λ k. closed_l2 c.args.head k read.stages) keep)))
    c.close_l2.ensures.ok

pub returns-clause-job : goal.returns-clause-job
returns-clause-job c =
    let r = c.args.self.now.rows in
    let items = c.self.inside.stages.items in
    let at : slice_get r.staged c.from.result ≡ Some c.requires.table = ap (slice_get r.staged) c.from.ensures ∙ c.requires.at in
    let there = there_now (the_view c.self.inside) _ items c.from.result c.index_mut-table.result.now c.close_l2.new.self c.self.view_is refl c.index_mut-table.ensures.value c.requires.table at in
    IfOk-weaker c.close_l2.result _ _
    (λ job is. ap (λ n. option_and_then pending_job (slice_get (stages_in (slice_set items c.from.result c.close_l2.new.self)) n)) (sym c.from.ensures) ∙ ap (option_and_then pending_job) there ∙ is)
    c.close_l2.ensures.job

pub returns-clause-err : goal.returns-clause-err
returns-clause-err c =
    on_err_weaker c.close_l2.result (kept_as (the_view c.self.inside) _ c.self.inside.stages.items c.from.result c.index_mut-table.result.now c.close_l2.new.self c.self.view_is refl c.index_mut-table.ensures.value) c.close_l2.ensures.err
