-- What a task comes to that changes rows.
use Rattle.std.proofs.Common.{ℕ, ◌≡◌, ◌<◌, ◌≤◌, ◌+◌, [], length, Option, None, Some, sym, ap, ◌∙◌, subst, arith}
use Rattle.ut_value.specs.Spelling.{ops_len}
use Rattle.ut_plain.specs.declared.statement.Statement.{Statement}
use Rattle.ut_plain.specs.declared.reply.Refusal.{Refusal}
use Rattle.ut_plain.specs.declared.reply.Refusal.TheVariants as refusals
use Rattle.ut_plain.specs.declared.reply.Reply.TheVariants as replies
use Rattle.ut_merge.specs.Jobs.{JobValue}
use Rattle.ut_names.specs.declared.bound.Task.{Task}
use Rattle.ut_tables.specs.declared.work.Work.{Work}
use Rattle.ut_tables.specs.Works.{ops_in, places_of, worked}
use Rattle.ut_txn.specs.declared.opened.Opened.{Opened}
use Rattle.ut_txn.specs.Seats.{opened_at, payload_at}
use Rattle.ut_store.specs.declared.outcome.Outcome.{Outcome}
use Rattle.ut_store.specs.declared.outcome.Outcome.TheVariants as outcomes
use Rattle.ut_store.specs.declared.response.Response.TheVariants.{Answered}
use Rattle.ut_store.specs.Held.{Held}
use Rattle.ut_store.specs.Answers.{Answers, Same}
use Rattle.ut_store.specs.Changes.{late_refusal, CanAppend, CanDo, DoneAlone, DoneInside, MayChange, Stays}
use Rattle.ut_store.specs.Executing.{Executes, IsAskedBy, MayExecute}
use Rattle.ut_store.specs.Outcomes.{response_of}
use Rattle.ut_store.specs.Works.{AnswersWork, Does, IsAskedWork, IsReady}
use Rattle.ut_store.proofs.FinishLemmas.{answers_alone, answers_inside, answers_memory, answers_nothing, answers_refused, answers_stays, can_append, can_do, size_fits}

-- Each statement that is bound to the task may change rows, and does this work.
pub record IsWorkOf (e : Held) (session : ℕ) (task : Task) (w : Work) : Type 0 where
  pub may : (st : Statement) → IsAskedBy e.rows.tables session task st → MayChange e session st
  pub does : (st : Statement) → IsAskedBy e.rows.tables session task st → Does e session st w

pub asked_work : (e : Held) (session : ℕ) (task : Task) (w : Work) → MayExecute e session task → IsWorkOf e session task w → IsAskedWork e session w
asked_work e session task w m is = record { st = m.st; may = is.may m.st m.asked; does = is.does m.st m.asked }

pub executed : (old new : Held) (session : ℕ) (task : Task) (w : Work) (outcome : Outcome) → IsWorkOf old session task w → AnswersWork old session w outcome new → Executes old session task outcome new
executed old new session task w outcome is a = record {
  each = λ st asked. a.each st (is.may st asked) (is.does st asked);
  job = λ job same. absurd (a.no_merge job same);
}

-- what is refused begins no merge
pub no_job : (why : Refusal) (job : JobValue) → outcomes.Refused why ≡ outcomes.Merging job → ⊥
no_job why job same = cc

-- a task is refused as its statements are
pub refused_by : (old new : Held) (session : ℕ) (task : Task) (outcome : Outcome) (why : Refusal) → outcome ≡ outcomes.Refused why
    → ((st : Statement) → IsAskedBy old.rows.tables session task st → Answers old session st (Answered (replies.Refused why)) new) → Executes old session task outcome new
refused_by old new session task outcome why is each = record {
  each = λ st asked. subst (λ (x : Outcome). Answers old session st (response_of x) new) (sym is) (each st asked);
  job = λ job same. absurd (no_job why job (sym is ∙ same));
}

-- where memory ran out
pub lacks : (old new : Held) (session : ℕ) (task : Task) (outcome : Outcome) → ((st : Statement) → IsAskedBy old.rows.tables session task st → MayChange old session st)
    → outcome ≡ outcomes.Refused refusals.Memory → Same old new → Executes old session task outcome new
lacks old new session task outcome may is same = record {
  each = λ st asked. answers_memory old new session st (response_of outcome) (may st asked).kind (ap response_of is) same;
  job = λ job merging. absurd (no_job refusals.Memory job (sym is ∙ merging));
}

-- ---- how work is answered

-- what is told of changed rows begins no merge
changed_no_job : (rows : ℕ) (commit : Option ℕ) (job : JobValue) → outcomes.Changed rows commit ≡ outcomes.Merging job → ⊥
changed_no_job rows commit job same = cc

module _ (e : Held) (session : ℕ) (w : Work) (asked : IsAskedWork e session w) (ready : IsReady e w) where
  -- a limit, or another transaction, is in its way
  pub work_refused : (why : Refusal) → late_refusal e session w.place (places_of w) (ops_in w.changes) ≡ Some why → AnswersWork e session w (outcomes.Refused why) e
  work_refused why late = record {
    each = λ st may does. answers_refused e session st w.place (places_of w) (ops_in w.changes) w.rows (worked w) why may does late;
    no_merge = λ job same. no_job why job same;
  }

  -- memory was wanting
  pub work_lacks : (new : Held) (outcome : Outcome) → outcome ≡ outcomes.Refused refusals.Memory → Stays e new → AnswersWork e session w outcome new
  work_lacks new outcome is stays = record {
    each = λ st may does. answers_stays e new session st (response_of outcome) may.kind (ap response_of is) stays;
    no_merge = λ job same. no_job refusals.Memory job (sym is ∙ same);
  }

  module _ (late : late_refusal e session w.place (places_of w) (ops_in w.changes) ≡ None) where
    pub work_can : CanDo e w.place (places_of w) (ops_in w.changes)
    work_can = can_do e session asked.st w.place (places_of w) (ops_in w.changes) w.rows (worked w) asked.may asked.does late ready.suits

    pub work_fits : (bytes : ℕ) → bytes ≡ ops_len (ops_in w.changes) → length (payload_at e.seats session) + bytes ≤ 1073741824
    work_fits bytes is = let size = size_fits e session asked.st w.place (places_of w) (ops_in w.changes) w.rows (worked w) asked.may asked.does late in omega (arith, size, is)

    pub work_appends : opened_at e.seats session ≡ None → 0 < length (ops_in w.changes) → CanAppend e
    work_appends closed some = can_append e session asked.st w.place (places_of w) (ops_in w.changes) w.rows (worked w) asked.may asked.does late closed some

    -- in a transaction
    pub work_inside : (new : Held) (o : Opened) → opened_at e.seats session ≡ Some o → DoneInside e new session o w.place (ops_in w.changes) (worked w) → AnswersWork e session w (outcomes.Changed w.rows None) new
    work_inside new o inside done = record {
      each = λ st may does. answers_inside e session st w.place (places_of w) (ops_in w.changes) w.rows (worked w) may does late new o ready.suits inside done;
      no_merge = λ job same. changed_no_job w.rows None job same;
    }

    -- nothing is done
    pub work_nothing : opened_at e.seats session ≡ None → ops_in w.changes ≡ [] → AnswersWork e session w (outcomes.Changed 0 None) e
    work_nothing closed none = record {
      each = λ st may does. answers_nothing e session st w.place (places_of w) (ops_in w.changes) w.rows (worked w) may does late closed none;
      no_merge = λ job same. changed_no_job 0 None job same;
    }

    -- alone
    pub work_alone : (new : Held) (commit : ℕ) → opened_at e.seats session ≡ None → 0 < length (ops_in w.changes) → DoneAlone e new w.place (ops_in w.changes) (worked w) → commit ≡ new.counts.commits
        → AnswersWork e session w (outcomes.Changed w.rows (Some commit)) new
    work_alone new commit closed some done is = record {
      each = λ st may does. answers_alone e new session st w.place (places_of w) (ops_in w.changes) w.rows commit (worked w) may ready.suits does late closed some done is;
      no_merge = λ job same. changed_no_job w.rows (Some commit) job same;
    }
