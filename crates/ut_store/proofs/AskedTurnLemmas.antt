-- What the begin of a transaction, its commit and its end without one come to.
use Rattle.std.proofs.Common.{ℕ, zero, suc, ◌+◌, ◌<◌, ◌≤◌, ◌≡◌, Bool, true, false, List, [], ◌∷◌, ◌++◌, length, Option, None, Some, is_some, refl, sym, ap, ◌∙◌, subst, arith, IsTrue, slice_set, nat_lt}
use Rattle.ut_value.specs.declared.entry.Entry.TheVariants as entries
use Rattle.ut_value.specs.Spelling.{spelling}
use Rattle.ut_plain.specs.declared.statement.Statement.{Statement}
use Rattle.ut_plain.specs.declared.statement.Statement.TheVariants.{Begin, Commit, Abort}
use Rattle.ut_plain.specs.declared.stage.PendingMerge.{PendingMerge}
use Rattle.ut_plain.specs.declared.reply.Reply.TheVariants as replies
use Rattle.ut_plain.specs.declared.reply.Refusal.TheVariants as refusals
use Rattle.ut_plain.specs.declared.reply.Why.{Why}
use Rattle.ut_plain.specs.declared.reply.Why.TheVariants as whys
use Rattle.ut_plain.specs.Refusals.{is_save}
use Rattle.ut_merge.specs.Jobs.{JobValue}
use Rattle.ut_stamps.specs.declared.fates.Fate.TheVariants.{Running, Committed}
use Rattle.ut_names.specs.declared.bound.Bound.TheVariants as bounds
use Rattle.ut_names.specs.declared.bound.Task.{Task}
use Rattle.ut_names.specs.declared.bound.Task.TheVariants as tasks
use Rattle.ut_names.proofs.TaskLemmas.{of_begin, of_commit, of_abort}
use Rattle.ut_txn.specs.declared.opened.Opened.{Opened}
use Rattle.ut_txn.specs.Seats.{Seat, opened_at, payload_at, SeatSet}
use Rattle.ut_tables.specs.Rows.{Rows}
use Rattle.ut_store.specs.declared.outcome.Outcome.{Outcome}
use Rattle.ut_store.specs.declared.outcome.Outcome.TheVariants as outcomes
use Rattle.ut_store.specs.declared.response.Response.TheVariants.{Answered}
use Rattle.ut_store.specs.Held.{Held}
use Rattle.ut_store.specs.Standing.{Stands, suits_session, is_of_store}
use Rattle.ut_store.specs.Early.{early_refusal, state_refusal}
use Rattle.ut_store.specs.Answers.{Answers, Same}
use Rattle.ut_store.specs.Ending.{Forgotten}
use Rattle.ut_store.specs.Executing.{Executes, IsAskedBy}
use Rattle.ut_store.specs.Outcomes.{response_of}
use Rattle.ut_store.proofs.EarlyLemmas.{early}
use Rattle.ut_store.proofs.StandsLemmas.{refused, no_memory, itself_same}
use Rattle.ut_store.proofs.TransactionLemmas.{began_now, gave_up_now, committed_nothing_now, commit_full, committed_something_now}
use Rattle.ut_store.proofs.WayLemmas.{early_of_bound}

-- ---- one statement alone is bound to the task

pub executed_as : (old new : Held) (session : ℕ) (task : Task) (outcome : Outcome) (that : Statement) → ((st : Statement) → IsAskedBy old.rows.tables session task st → st ≡ that) → ((job : JobValue) → outcome ≡ outcomes.Merging job → ⊥)
    → ((st : Statement) → IsAskedBy old.rows.tables session task st → Answers old session that (response_of outcome) new) → Executes old session task outcome new
executed_as old new session task outcome that is other each = record {
  each = λ st a. subst (λ (x : Statement). Answers old session x (response_of outcome) new) (sym (is st a)) (each st a);
  job = λ job same. absurd (other job same);
}

module _ (e : Held) (session : ℕ) where
  -- of a statement that is bound only the state may be in the way
  pub early_by : (task : Task) (st that : Statement) → IsAskedBy e.rows.tables session task st → st ≡ that → early_refusal e session that ≡ state_refusal (is_some (opened_at e.seats session)) e.counts.pending that
  early_by task st that a is =
      subst (λ (x : Statement). early_refusal e session x ≡ state_refusal (is_some (opened_at e.seats session)) e.counts.pending x) is (early_of_bound e session st (bounds.Task task) a.binds)

  -- it is in the way
  pub state_why_refused : (st : Statement) (why : Why) → session < 17 → is_save st ≡ false → early_refusal e session st ≡ Some (refusals.State why) → Answers e session st (Answered (replies.Refused (refusals.State why))) e
  state_why_refused st why small served is = refused e e session st (refusals.State why) (early e session st (refusals.State why) small served is) (itself_same e)

  -- a session's statement is none of the store's
  pub inside_by : (task : Task) (st that : Statement) → IsAskedBy e.rows.tables session task st → st ≡ that → is_of_store that ≡ false → 0 < session
  inside_by task st that a is other = by session (subst (λ (x : Statement). IsTrue (suits_session session x)) is a.suits)
    where
      not_both : (b : Bool) → b ≡ false → IsTrue b → ⊥
      not_both b h k = cc

      by : (n : ℕ) → IsTrue (suits_session n that) → 0 < n
      by zero h = absurd (not_both (is_of_store that) other h)
      by (suc n) h = omega arith

  -- ---- begin

  begins : (st : Statement) → IsAskedBy e.rows.tables session tasks.Begin st → st ≡ Begin
  begins st a = of_begin e.rows.tables st a.binds.is

  calm_begin : (pending : Option PendingMerge) → state_refusal false pending Begin ≡ None
  calm_begin None = refl
  calm_begin (Some m) = refl

  pub begin_open : session < 17 → is_some (opened_at e.seats session) ≡ true → Executes e session tasks.Begin (outcomes.Refused (refusals.State whys.TxnOpen)) e
  begin_open small inside = executed_as e e session tasks.Begin (outcomes.Refused (refusals.State whys.TxnOpen)) Begin begins (λ job h. cc)
      (λ st a. state_why_refused Begin whys.TxnOpen small refl (early_by tasks.Begin st Begin a (begins st a) ∙ ap (λ (b : Bool). state_refusal b e.counts.pending Begin) inside))

  pub begin_lacks : (new : Held) → Same e new → Executes e session tasks.Begin (outcomes.Refused refusals.Memory) new
  begin_lacks new same = executed_as e new session tasks.Begin (outcomes.Refused refusals.Memory) Begin begins (λ job h. cc) (λ st a. no_memory e new session Begin refl same)

  pub begin_done : (rows : Rows) (seats : List Seat) (number : ℕ) → session < 17 → is_some (opened_at e.seats session) ≡ false → rows ≡ record e.rows { fates = e.rows.fates ++ Running ∷ [] }
      → number ≡ length e.rows.fates → SeatSet e.seats seats session (Some (record { snapshot = e.counts.entries; number = number })) (payload_at e.seats session)
      → Executes e session tasks.Begin outcomes.Done (record e { rows = rows; seats = seats })
  begin_done rows seats number small closed started numbered set = executed_as e (record e { rows = rows; seats = seats }) session tasks.Begin outcomes.Done Begin begins (λ job h. cc)
      (λ st a. began_now e rows seats session number (inside_by tasks.Begin st Begin a (begins st a) refl) small
      (early_by tasks.Begin st Begin a (begins st a) ∙ ap (λ (b : Bool). state_refusal b e.counts.pending Begin) closed ∙ calm_begin e.counts.pending) started numbered set)

  -- ---- the end of a transaction, where there is none

  closed_is : opened_at e.seats session ≡ None → is_some (opened_at e.seats session) ≡ false
  closed_is h = ap is_some h

  opened_is : (o : Opened) → opened_at e.seats session ≡ Some o → is_some (opened_at e.seats session) ≡ true
  opened_is o h = ap is_some h

  -- ---- abort

  aborts : (st : Statement) → IsAskedBy e.rows.tables session tasks.Abort st → st ≡ Abort
  aborts st a = of_abort e.rows.tables st a.binds.is

  calm_abort : (pending : Option PendingMerge) → state_refusal true pending Abort ≡ None
  calm_abort None = refl
  calm_abort (Some m) = refl

  pub abort_closed : session < 17 → opened_at e.seats session ≡ None → Executes e session tasks.Abort (outcomes.Refused (refusals.State whys.TxnClosed)) e
  abort_closed small closed = executed_as e e session tasks.Abort (outcomes.Refused (refusals.State whys.TxnClosed)) Abort aborts (λ job h. cc)
      (λ st a. state_why_refused Abort whys.TxnClosed small refl (early_by tasks.Abort st Abort a (aborts st a) ∙ ap (λ (b : Bool). state_refusal b e.counts.pending Abort) (closed_is closed)))

  pub abort_done : (new : Held) (o : Opened) → session < 17 → opened_at e.seats session ≡ Some o → Forgotten e session o new → Executes e session tasks.Abort outcomes.Done new
  abort_done new o small inside f = executed_as e new session tasks.Abort outcomes.Done Abort aborts (λ job h. cc)
      (λ st a. gave_up_now e new session o (inside_by tasks.Abort st Abort a (aborts st a) refl) small
      (early_by tasks.Abort st Abort a (aborts st a) ∙ ap (λ (b : Bool). state_refusal b e.counts.pending Abort) (opened_is o inside) ∙ calm_abort e.counts.pending) inside f)

  -- ---- commit

  commits : (st : Statement) → IsAskedBy e.rows.tables session tasks.Commit st → st ≡ Commit
  commits st a = of_commit e.rows.tables st a.binds.is

  calm_commit : (pending : Option PendingMerge) → state_refusal true pending Commit ≡ None
  calm_commit None = refl
  calm_commit (Some m) = refl

  calm : (st : Statement) (o : Opened) → IsAskedBy e.rows.tables session tasks.Commit st → opened_at e.seats session ≡ Some o → early_refusal e session Commit ≡ None
  calm st o a inside = early_by tasks.Commit st Commit a (commits st a) ∙ ap (λ (b : Bool). state_refusal b e.counts.pending Commit) (opened_is o inside) ∙ calm_commit e.counts.pending

  pub commit_closed : session < 17 → opened_at e.seats session ≡ None → Executes e session tasks.Commit (outcomes.Refused (refusals.State whys.TxnClosed)) e
  commit_closed small closed = executed_as e e session tasks.Commit (outcomes.Refused (refusals.State whys.TxnClosed)) Commit commits (λ job h. cc)
      (λ st a. state_why_refused Commit whys.TxnClosed small refl (early_by tasks.Commit st Commit a (commits st a) ∙ ap (λ (b : Bool). state_refusal b e.counts.pending Commit) (closed_is closed)))

  pub commit_nothing : (new : Held) (o : Opened) → session < 17 → Stands e → opened_at e.seats session ≡ Some o → nat_lt 5 (length (payload_at e.seats session)) ≡ false → Forgotten e session o new
      → Executes e session tasks.Commit outcomes.Done new
  commit_nothing new o small stands inside few f = executed_as e new session tasks.Commit outcomes.Done Commit commits (λ job h. cc)
      (λ st a. committed_nothing_now e new session o (inside_by tasks.Commit st Commit a (commits st a) refl) small stands (calm st o a inside) few inside f)

  pub commit_long : (o : Opened) → session < 17 → opened_at e.seats session ≡ Some o → nat_lt 5 (length (payload_at e.seats session)) ≡ true → 1073741823 ≤ e.counts.entries
      → Executes e session tasks.Commit (outcomes.Refused refusals.Full) e
  commit_long o small inside some long = executed_as e e session tasks.Commit (outcomes.Refused refusals.Full) Commit commits (λ job h. cc)
      (λ st a. commit_full e session small (calm st o a inside) some long)

  pub commit_done : (rows : Rows) (seats : List Seat) (frame : List ℕ) (o : Opened) → session < 17 → opened_at e.seats session ≡ Some o → nat_lt 5 (length (payload_at e.seats session)) ≡ true → e.counts.entries < 1073741823
      → rows ≡ record e.rows { fates = slice_set e.rows.fates o.number (Committed (e.counts.entries + 1)) } → frame ≡ payload_at e.seats session → SeatSet e.seats seats session None (spelling (entries.Txn []))
      → Executes e session tasks.Commit (outcomes.Committed (e.counts.commits + 1)) (record e { rows = rows; seats = seats; counts = record e.counts { commits = e.counts.commits + 1; entries = e.counts.entries + 1 }; frame = frame })
  commit_done rows seats frame o small inside some short ended bytes set =
      executed_as e (record e { rows = rows; seats = seats; counts = record e.counts { commits = e.counts.commits + 1; entries = e.counts.entries + 1 }; frame = frame }) session tasks.Commit
      (outcomes.Committed (e.counts.commits + 1)) Commit commits (λ job h. cc)
      (λ st a. committed_something_now e rows seats frame session o (inside_by tasks.Commit st Commit a (commits st a) refl) small (calm st o a inside) some short inside ended bytes set)
