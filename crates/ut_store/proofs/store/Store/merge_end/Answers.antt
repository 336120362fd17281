use Rattle.std.proofs.Common.{◌≡◌, ◌+◌, ℕ, Option, Some, sym, ap, ◌∙◌, subst}
use Rattle.std.specs.Option.{option_map, option_and_then}
use Rattle.ut_value.specs.declared.entry.Entry.TheVariants as entries
use Rattle.ut_value.specs.Spelling.{spelling}
use Rattle.ut_plain.specs.declared.stage.PendingMerge.{PendingMerge}
use Rattle.ut_plain.specs.declared.statement.Statement.TheVariants.{MergeEnd}
use Rattle.ut_plain.specs.declared.reply.Reply.TheVariants as replies
use Rattle.ut_tables.specs.Merging.{Switched, job_at}
use Rattle.ut_store.specs.declared.response.Response.TheVariants.{Append}
use Rattle.ut_store.specs.Held.{Held}
use Rattle.ut_store.specs.Standing.{Stands}
use Rattle.ut_store.specs.Jobs.{pending_job}
use Rattle.ut_store.specs.Answers.{Answers}
use Rattle.ut_store.specs.contracts.store.Store.{the_view}
use Rattle.ut_store.proofs.MergeTurnLemmas.{merged_table, merge_ended_now}
use Rattle.ut_store.proofs.store.Store.merge_end.Goals as goal

pub switch-requires : goal.switch-requires
switch-requires c =
    let e = the_view c.self.inside in
    let m = c.head-head.result in
    let is : e.counts.pending ≡ Some m = sym c.take.ensures.value ∙ c.unwrap-pending.ensures ∙ ap Some (sym c.head-head.ensures) in
    let built : pending_job e ≡ Some c.args.built = subst (λ (x : Held). pending_job x ≡ Some c.args.built) (sym c.self.view_is) c.requires.built in
    ap (job_at e.rows) c.from.ensures ∙ ap (option_and_then (λ (x : PendingMerge). job_at e.rows x.table)) (sym is) ∙ built

pub returns-clause-answers : goal.returns-clause-answers
returns-clause-answers c session small =
    let e = the_view c.self.inside in
    let m = c.head-head.result in
    let rows = c.switch.new.self.rows in
    let stands = subst Stands (sym c.self.view_is) c.requires.stands in
    let is : e.counts.pending ≡ Some m = sym c.take.ensures.value ∙ c.unwrap-pending.ensures ∙ ap Some (sym c.head-head.ensures) in
    let t = merged_table e m c.args.built stands is (subst (λ (x : Held). pending_job x ≡ Some c.args.built) (sym c.self.view_is) c.requires.built) in
    let switched = subst (λ (h : PendingMerge). Switched e.rows m.table h.kind rows) t.head (subst (λ (n : ℕ). Switched e.rows n c.args.built.head.kind rows) c.from.ensures c.switch.ensures) in
    subst (λ (x : Held). Answers x session MergeEnd (Append (replies.Merge m.number)) (record e { rows = rows; counts = record e.counts { entries = e.counts.entries + 1; pending = c.take.new.self }; frame = c.into_frame.result.payload })) c.self.view_is
    (subst (λ (o : Option PendingMerge). Answers e session MergeEnd (Append (replies.Merge m.number)) (record e { rows = rows; counts = record e.counts { entries = e.counts.entries + 1; pending = o }; frame = c.into_frame.result.payload })) (sym c.take.ensures.after)
    (merge_ended_now e rows m session c.into_frame.result.payload small is switched
    (c.into_frame.ensures ∙ ap (λ (h : PendingMerge). spelling (entries.Ended h.number)) (sym c.head-head.ensures))))

pub returns-clause-number : goal.returns-clause-number
returns-clause-number c =
    let e = the_view c.self.inside in
    let m = c.head-head.result in
    let is : e.counts.pending ≡ Some m = sym c.take.ensures.value ∙ c.unwrap-pending.ensures ∙ ap Some (sym c.head-head.ensures) in
    subst (λ (x : Held). option_map (λ (o : PendingMerge). o.number) x.counts.pending ≡ Some m.number) c.self.view_is (ap (option_map (λ (o : PendingMerge). o.number)) is)
