-- What a question is answered.
use Rattle.std.proofs.Common.{ℕ, ◌<◌, ◌≡◌, Bool, true, false, Option, None, Some, refl, sym, ap, ◌∙◌, IsTrue}
use Rattle.std.specs.Option.{option_map, is_some}
use Rattle.ut_plain.specs.declared.stage.PendingMerge.{PendingMerge}
use Rattle.ut_plain.specs.declared.statement.Query.{Query}
use Rattle.ut_plain.specs.declared.statement.Statement.{Statement}
use Rattle.ut_plain.specs.declared.statement.Statement.TheVariants as statements
use Rattle.ut_plain.specs.declared.reply.Refusal.{Refusal}
use Rattle.ut_plain.specs.declared.reply.Refusal.TheVariants as refusals
use Rattle.ut_plain.specs.declared.reply.Reply.{Reply}
use Rattle.ut_plain.specs.Kinds.{kinds_fit}
use Rattle.ut_plain.specs.Names.{names_known}
use Rattle.ut_plain.specs.View.{view}
use Rattle.ut_plain.specs.Query as query
use Rattle.ut_plain.specs.Refusals.{state_why, merge_why, unless, or_else}
use Rattle.ut_plain.specs.Spelled.{is_spelled}
use Rattle.ut_query.specs.Tells.{IsAnswer}
use Rattle.ut_txn.specs.Seats.{opened_at}
use Rattle.ut_store.specs.declared.response.Response.TheVariants.{Answered}
use Rattle.ut_store.specs.Held.{Held}
use Rattle.ut_store.specs.Standing.{finds_rows}
use Rattle.ut_store.specs.Early.{early_refusal}
use Rattle.ut_store.specs.Answers.{Answers}
use Rattle.ut_store.specs.Reads.{sight_of}
use Rattle.ut_store.proofs.EarlyLemmas.{allowed}
use Rattle.ut_store.proofs.LookLemmas.{sees}
use Rattle.ut_store.proofs.StandsLemmas.{itself_same, tells}

-- neither the session's state nor a merge stands in the way
quiet : (inside : Bool) (pending : Option PendingMerge) (st : Statement) → finds_rows st ≡ true → or_else (option_map refusals.State (state_why inside st)) (option_map refusals.State (merge_why pending st)) ≡ None
quiet true None (statements.Ask q) h = refl
quiet true (Some m) (statements.Ask q) h = refl
quiet false None (statements.Ask q) h = refl
quiet false (Some m) (statements.Ask q) h = refl
quiet true None (statements.Update name column value preds) h = refl
quiet true (Some m) (statements.Update name column value preds) h = refl
quiet false None (statements.Update name column value preds) h = refl
quiet false (Some m) (statements.Update name column value preds) h = refl
quiet true None (statements.Delete name preds) h = refl
quiet true (Some m) (statements.Delete name preds) h = refl
quiet false None (statements.Delete name preds) h = refl
quiet false (Some m) (statements.Delete name preds) h = refl
quiet inside pending _ h = cc

abbrev behind : Held → ℕ → Statement → Option Refusal
behind e session st = or_else (option_map refusals.State (state_why (is_some (opened_at e.seats session)) st)) (option_map refusals.State (merge_why e.counts.pending st))

pub early_none : (e : Held) (session : ℕ) (st : Statement) → finds_rows st ≡ true → names_known e.rows.tables st ≡ true → kinds_fit e.rows.tables st ≡ true → early_refusal e session st ≡ None
early_none e session st finds names kinds =
    (λ i. or_else (unless (names i) refusals.Name) (or_else (unless (kinds i) refusals.Kind) (behind e session st)))
    ∙ quiet (is_some (opened_at e.seats session)) e.counts.pending st finds

-- what a question is answered
pub told_now : (e : Held) (session : ℕ) (q : Query) (reply : Reply) → session < 17 → IsTrue (is_spelled (statements.Ask q)) → IsAnswer (sight_of e session) q reply → Answers e session (statements.Ask q) (Answered reply) e
told_now e session q reply small spelled t =
    tells e e session (statements.Ask q) reply spelled (allowed e session (statements.Ask q) small refl (early_none e session (statements.Ask q) refl t.known t.fits) (λ p s. refl) (λ p s. refl)) (itself_same e)
    (λ p s. ap (λ (r : Reply). record { reply = r; plain = p }) (sym (t.told (view p session).rows (sees e p session small s) ∙ ap (λ ts. query.told ts (view p session).rows q) s.counts.tables)))
