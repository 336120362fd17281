-- Binding and executing is answering.
use Rattle.std.proofs.Common.{ℕ, zero, suc, ◌<◌, ◌≡◌, Bool, true, false, Option, None, Some, is_some, refl, ◌∙◌, arith, IsTrue}
use Rattle.ut_plain.specs.declared.statement.Statement.{Statement}
use Rattle.ut_plain.specs.declared.statement.Statement.TheVariants as statements
use Rattle.ut_plain.specs.declared.stage.PendingMerge.{PendingMerge}
use Rattle.ut_plain.specs.declared.reply.Refusal.{Refusal}
use Rattle.ut_plain.specs.declared.reply.Refusal.TheVariants as refusals
use Rattle.ut_plain.specs.declared.reply.Reply.TheVariants as replies
use Rattle.ut_plain.specs.Kinds.{kinds_fit}
use Rattle.ut_plain.specs.Names.{names_known}
use Rattle.ut_plain.specs.Refusals.{is_save, unless, or_else}
use Rattle.ut_plain.specs.Spelled.{is_spelled}
use Rattle.ut_plain.specs.Step.{may_lack_memory}
use Rattle.ut_names.specs.declared.bound.Bound.{Bound}
use Rattle.ut_names.specs.declared.bound.Bound.TheVariants as bounds
use Rattle.ut_names.specs.declared.bound.Task.{Task}
use Rattle.ut_names.specs.Resolved.{Hinders}
use Rattle.ut_names.specs.Binding.{Binds}
use Rattle.ut_txn.specs.Seats.{opened_at}
use Rattle.ut_store.specs.declared.outcome.Outcome.{Outcome}
use Rattle.ut_store.specs.declared.response.Response.TheVariants.{Answered}
use Rattle.ut_store.specs.Held.{Held}
use Rattle.ut_store.specs.Standing.{Stands, changes_rows, suits_session}
use Rattle.ut_store.specs.Early.{early_refusal, state_refusal}
use Rattle.ut_store.specs.Answers.{Answers}
use Rattle.ut_store.specs.Changes.{MayChange}
use Rattle.ut_store.specs.Executing.{Executes}
use Rattle.ut_store.specs.Outcomes.{response_of}
use Rattle.ut_store.proofs.EarlyLemmas.{early}
use Rattle.ut_store.proofs.StandsLemmas.{itself_same, no_memory, refused}

-- what was bound and executed is answered
pub answers : (old new : Held) (session : ℕ) (st : Statement) (task : Task) (outcome : Outcome) → Binds old.rows.tables st (bounds.Task task)
    → IsTrue (suits_session session st) → IsTrue (is_spelled st) → Executes old session task outcome new → Answers old session st (response_of outcome) new
answers old new session st task outcome binds suits spelled x = x.each st (record { binds = binds; suits = suits; spelled = spelled })

-- of a statement that is bound only the state may be in the way
pub early_of_bound : (e : Held) (session : ℕ) (st : Statement) (bound : Bound) → Binds e.rows.tables st bound
    → early_refusal e session st ≡ state_refusal (is_some (opened_at e.seats session)) e.counts.pending st
early_of_bound e session st bound b =
    λ i. or_else (unless (b.known i) refusals.Name) (or_else (unless (b.fits i) refusals.Kind) (state_refusal (is_some (opened_at e.seats session)) e.counts.pending st))

-- a statement that changes rows suits each state
quiet : (inside : Bool) (pending : Option PendingMerge) (st : Statement) → IsTrue (changes_rows st) → state_refusal inside pending st ≡ None
quiet true None (statements.Insert name values) h = refl
quiet true (Some m) (statements.Insert name values) h = refl
quiet false None (statements.Insert name values) h = refl
quiet false (Some m) (statements.Insert name values) h = refl
quiet true None (statements.Bulk name values) h = refl
quiet true (Some m) (statements.Bulk name values) h = refl
quiet false None (statements.Bulk name values) h = refl
quiet false (Some m) (statements.Bulk name values) h = refl
quiet true None (statements.Update name column value preds) h = refl
quiet true (Some m) (statements.Update name column value preds) h = refl
quiet false None (statements.Update name column value preds) h = refl
quiet false (Some m) (statements.Update name column value preds) h = refl
quiet true None (statements.Delete name preds) h = refl
quiet true (Some m) (statements.Delete name preds) h = refl
quiet false None (statements.Delete name preds) h = refl
quiet false (Some m) (statements.Delete name preds) h = refl
quiet inside pending _ h = cc

-- a session's statement that changes rows, and is bound, may change them
pub may_change : (e : Held) (session : ℕ) (st : Statement) (bound : Bound) → session < 17 → Stands e → Binds e.rows.tables st bound → IsTrue (suits_session session st)
    → IsTrue (is_spelled st) → IsTrue (changes_rows st) → MayChange e session st
may_change e session st bound small stands binds suits spelled kind = record {
  seat = small;
  inside = inside session st suits kind;
  spelled = spelled;
  stands = stands;
  early = early_of_bound e session st bound binds ∙ quiet (is_some (opened_at e.seats session)) e.counts.pending st kind;
  kind = kind;
}
  where
    inside : (n : ℕ) (x : Statement) → IsTrue (suits_session n x) → IsTrue (changes_rows x) → 0 < n
    inside zero (statements.Insert name values) h k = cc
    inside zero (statements.Bulk name values) h k = cc
    inside zero (statements.Update name column value preds) h k = cc
    inside zero (statements.Delete name preds) h k = cc
    inside zero _ h k = cc
    inside (suc n) x h k = omega arith

-- what keeps a statement from being bound is its answer
pub kept_back : (e : Held) (session : ℕ) (st : Statement) (why : Refusal) → session < 17 → is_save st ≡ false
    → Hinders (names_known e.rows.tables st) (kinds_fit e.rows.tables st) why → (why ≡ refusals.Memory → IsTrue (may_lack_memory st))
    → Answers e session st (Answered (replies.Refused why)) e
kept_back e session st refusals.Name small served h lacks =
    refused e e session st refusals.Name
    (early e session st refusals.Name small served (λ i. or_else (unless (h i) refusals.Name) (or_else (unless (kinds_fit e.rows.tables st) refusals.Kind) (state_refusal (is_some (opened_at e.seats session)) e.counts.pending st)))) (itself_same e)
kept_back e session st refusals.Kind small served h lacks =
    refused e e session st refusals.Kind
    (early e session st refusals.Kind small served (λ i. or_else (unless (h.0 i) refusals.Name) (or_else (unless (h.1 i) refusals.Kind) (state_refusal (is_some (opened_at e.seats session)) e.counts.pending st)))) (itself_same e)
kept_back e session st refusals.Memory small served h lacks = no_memory e e session st (lacks refl) (itself_same e)
kept_back e session st refusals.Syntax small served h lacks = absurd h
kept_back e session st (refusals.State why) small served h lacks = absurd h
kept_back e session st refusals.Full small served h lacks = absurd h
kept_back e session st (refusals.Conflict id) small served h lacks = absurd h
