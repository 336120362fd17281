-- What the begin of a merge comes to, and its end.
use Rattle.std.proofs.lemmas.Bool.{eq-eqb}
use Rattle.std.proofs.lemmas.List.{length-map}
use Rattle.std.specs.Option.{option_map, option_and_then}
use Rattle.ut_plain.specs.Journal.{journal_len, current}
use Rattle.ut_plain.specs.Reached.{AreMerges}
use Rattle.ut_plain.specs.Stages.{Stages}
use Rattle.ut_table.specs.Pending as tables
use Rattle.ut_staged.proofs.ListLemmas.{get-there, get-map, none_some}
use Rattle.ut_tables.specs.Standing.{merge_at}
use Rattle.std.proofs.Common.{length, cond, arith, ℕ, ◌≡◌, Bool, true, false, List, Option, None, Some, is_some, refl, sym, ap, ◌∙◌, subst, IsTrue, slice_get}
use Rattle.ut_value.specs.declared.entry.MergeKind.{MergeKind}
use Rattle.ut_plain.specs.declared.statement.Statement.{Statement}
use Rattle.ut_plain.specs.declared.statement.Statement.TheVariants as statements
use Rattle.ut_plain.specs.declared.stage.PendingMerge.{PendingMerge}
use Rattle.ut_plain.specs.declared.reply.Reply.TheVariants as replies
use Rattle.ut_plain.specs.declared.reply.Refusal.TheVariants as refusals
use Rattle.ut_plain.specs.declared.reply.Why.TheVariants as whys
use Rattle.ut_plain.specs.Spelled.{is_spelled}
use Rattle.ut_merge.specs.Jobs.{JobValue}
use Rattle.ut_staged.specs.Staged.{Staged, stages_of}
use Rattle.ut_names.specs.declared.bound.Task.TheVariants as tasks
use Rattle.ut_names.proofs.TaskLemmas.{OfMerge, of_merge}
use Rattle.ut_txn.specs.Seats.{opened_at}
use Rattle.ut_store.specs.declared.outcome.Outcome.{Outcome}
use Rattle.ut_store.specs.declared.outcome.Outcome.TheVariants as outcomes
use Rattle.ut_store.specs.declared.response.Response.TheVariants.{Answered, Append}
use Rattle.ut_store.specs.Held.{Held}
use Rattle.ut_store.specs.Standing.{Stands}
use Rattle.ut_store.specs.Early.{early_refusal, state_refusal}
use Rattle.ut_store.specs.Answers.{Answers, Same}
use Rattle.ut_store.specs.Executing.{ExecutesFor, IsAskedBy}
use Rattle.ut_store.specs.Jobs.{pending_job}
use Rattle.ut_store.specs.Merging.{next_merge, has_room_to_merge, merge_begun}
use Rattle.ut_store.proofs.StandsLemmas.{no_memory}
use Rattle.ut_store.proofs.MergeTurnLemmas.{merged_table, merge_full, merge_begun_now}
use Rattle.ut_store.proofs.AskedTurnLemmas.{early_by, state_why_refused}

-- the job of an outcome, else this
abbrev job_in : JobValue → Outcome → Option JobValue
job_in j (outcomes.Merging x) = Some x
job_in j _ = Some j

module _ (e : Held) (n : ℕ) (kind : MergeKind) where
  -- only a pending merge is in the way
  state_of : (inside : Bool) (pending : Option PendingMerge) (name : List ℕ) → state_refusal inside pending (statements.MergeBegin name kind) ≡ state_refusal false pending (statements.MergeBegin name kind)
  state_of true None name = refl
  state_of true (Some m) name = refl
  state_of false None name = refl
  state_of false (Some m) name = refl

  early_is : (session : ℕ) (st : Statement) (a : IsAskedBy e.rows.tables session (tasks.MergeBegin n kind) st) (o : OfMerge e.rows.tables n kind st) (pending : Option PendingMerge) → e.counts.pending ≡ pending
      → early_refusal e session (statements.MergeBegin o.name kind) ≡ state_refusal false pending (statements.MergeBegin o.name kind)
  early_is session st a o pending is =
      early_by e session (tasks.MergeBegin n kind) st (statements.MergeBegin o.name kind) a o.is
      ∙ state_of (is_some (opened_at e.seats session)) e.counts.pending o.name
      ∙ ap (λ (p : Option PendingMerge). state_refusal false p (statements.MergeBegin o.name kind)) is

  pub begin_busy : (m : PendingMerge) → e.counts.pending ≡ Some m → ExecutesFor e (tasks.MergeBegin n kind) (outcomes.Refused (refusals.State (whys.Busy m.number))) e
  begin_busy m pending session small = record {
    each = λ st a.
        let o = of_merge e.rows.tables n kind st a.binds.is in
        subst (λ (x : Statement). Answers e session x (Answered (replies.Refused (refusals.State (whys.Busy m.number)))) e) (sym o.is)
        (state_why_refused e session (statements.MergeBegin o.name kind) (whys.Busy m.number) small refl (early_is session st a o (Some m) pending));
    job = λ job h. cc;
  }

  pub begin_full : (s : Staged) → e.counts.pending ≡ None → slice_get e.rows.staged n ≡ Some s → has_room_to_merge e s kind ≡ false → ExecutesFor e (tasks.MergeBegin n kind) (outcomes.Refused refusals.Full) e
  begin_full s idle here test session small = record {
    each = λ st a.
        let o = of_merge e.rows.tables n kind st a.binds.is in
        subst (λ (x : Statement). Answers e session x (Answered (replies.Refused refusals.Full)) e) (sym o.is)
        (merge_full e session o.name kind n s small (early_is session st a o None idle) o.place here test);
    job = λ job h. cc;
  }

  pub begin_lacks : (new : Held) → Same e new → ExecutesFor e (tasks.MergeBegin n kind) (outcomes.Refused refusals.Memory) new
  begin_lacks new same session small = record {
    each = λ st a.
        let o = of_merge e.rows.tables n kind st a.binds.is in
        subst (λ (x : Statement). Answers e session x (Answered (replies.Refused refusals.Memory)) new) (sym o.is) (no_memory e new session (statements.MergeBegin o.name kind) refl same);
    job = λ job h. cc;
  }

  pub begin_done : (new : Held) (s : Staged) (job : JobValue) → Stands e → e.counts.pending ≡ None → slice_get e.rows.staged n ≡ Some s → has_room_to_merge e s kind ≡ true → new ≡ merge_begun e n kind s → pending_job new ≡ Some job
      → ExecutesFor e (tasks.MergeBegin n kind) (outcomes.Merging job) new
  begin_done new s job stands idle here test same is session small = record { each = told; job = λ other h. is ∙ ap (job_in job) h }
    where
      told : (st : Statement) → IsAskedBy e.rows.tables session (tasks.MergeBegin n kind) st → Answers e session st (Append (replies.Merge job.head.number)) new
      told st a =
          let o = of_merge e.rows.tables n kind st a.binds.is in
          let begun = merge_begun_now e new session o.name kind n s small (subst (λ (x : Statement). IsTrue (is_spelled x)) o.is a.spelled) (early_is session st a o None idle) idle o.place here test same in
          let after = begun.each stands.plain stands.stands in
          let pending : new.counts.pending ≡ Some (next_merge e n kind) = ap (λ (x : Held). x.counts.pending) same in
          let head : job.head ≡ next_merge e n kind = (merged_table new (next_merge e n kind) job (record { plain = after.after; stands = after.stands }) pending is).head in
          let number : new.counts.merges ≡ job.head.number = ap (λ (x : Held). x.counts.merges) same ∙ sym (ap (λ (m : PendingMerge). m.number) head) in
          subst (λ (x : Statement). Answers e session x (Append (replies.Merge job.head.number)) new) (sym o.is)
          (subst (λ (k : ℕ). Answers e session (statements.MergeBegin o.name kind) (Append (replies.Merge k)) new) number begun)

-- ---- its end

-- where the store has no job no merge is pending
pub nothing_pending : (e : Held) → Stands e → pending_job e ≡ None → e.counts.pending ≡ None
nothing_pending e st none = by st.plain.pending st.stands.counts.pending st.stands.plain.merges
  where
    by : (o : Option PendingMerge) → e.counts.pending ≡ o → AreMerges o st.plain.stages (current st.plain.journal).merges (journal_len st.plain.journal) → e.counts.pending ≡ None
    by None is merges = is
    by (Some m) is merges =
        let count : length st.plain.stages ≡ length e.rows.staged = ap (λ (l : Stages). length l) st.stands.rows.stages ∙ length-map e.rows.staged stages_of in
        let within = merges.table in
        let t = get-there e.rows.staged m.table (omega (arith, count, within)) in
        let merging : t.0.merge ≡ Some m =
        st.stands.rows.merging m.table t.0.merge (get-map (λ (x : Staged). x.merge) e.rows.staged m.table t.0 t.1) ∙ ap (λ o. merge_at o m.table) is ∙ ap (λ (b : Bool). cond b (Some m) None) (eq-eqb m.table m.table refl) in
        let job : pending_job e ≡ Some (tables.job_of t.0 m) =
        ap (λ (o : Option PendingMerge). option_and_then (λ (x : PendingMerge). option_and_then tables.pending_job (slice_get e.rows.staged x.table)) o) is
        ∙ ap (λ (o : Option Staged). option_and_then tables.pending_job o) t.1
        ∙ ap (λ (o : Option PendingMerge). option_map (tables.job_of t.0) o) merging in
        absurd (none_some (tables.job_of t.0 m) (sym none ∙ job))
