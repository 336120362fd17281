-- How many pages an image takes is asked for where a savepoint begins, and nowhere else.
use Rattle.std.proofs.Common.{◌≡◌, ℕ, ◌+◌, nat_le, List, [], ◌∷◌, Option, None, Some, refl, sym, ap, ◌∙◌}
use Rattle.std.specs.Option.{option_map, is_some}
use Rattle.ut_value.specs.declared.entry.Op.{Op}
use Rattle.ut_plain.specs.declared.transaction.OpenTransaction.{OpenTransaction}
use Rattle.ut_plain.specs.declared.stage.PendingMerge.{PendingMerge}
use Rattle.ut_plain.specs.declared.statement.Statement.{Statement}
use Rattle.ut_plain.specs.declared.statement.Statement.TheVariants.{Create, Insert, Bulk, Ask, Update, Delete, Begin, Commit, Abort, MergeL1, MergeBegin, MergeEnd, SaveBegin, SaveStep, SaveSeal, SaveFlip, SaveDrop, Shape}
use Rattle.ut_plain.specs.declared.reply.Reply.{Reply}
use Rattle.ut_plain.specs.declared.reply.Reply.TheVariants as replies
use Rattle.ut_plain.specs.declared.reply.Refusal.{Refusal}
use Rattle.ut_plain.specs.declared.reply.Refusal.TheVariants as refusals
use Rattle.ut_plain.specs.Rows.{inserts_of}
use Rattle.ut_plain.specs.Capture.{Directory}
use Rattle.ut_plain.specs.Journal.{journal_len, current}
use Rattle.ut_plain.specs.Plain.{Plain, Phase, Idle, Writing, Sealed, open_at}
use Rattle.ut_plain.specs.View.{view, captured_now, own_ops}
use Rattle.ut_plain.specs.Names.{names_known}
use Rattle.ut_plain.specs.Kinds.{kinds_fit}
use Rattle.ut_plain.specs.Made.{made, changes}
use Rattle.ut_plain.specs.Limits.{has_room, has_ops_room, has_commit_room}
use Rattle.ut_plain.specs.Reached.{IsPlain}
use Rattle.ut_plain.specs.Stages.{with_inserts}
use Rattle.ut_plain.specs.Refusals.{state_why, merge_why, save_why, unless, or_else, conflict, refusal}
use Rattle.ut_plain.specs.Step.{Stepped, step, step_by, effect_of, with_made, changed, is_bulk, committed, committed_by, merge_ended, save_written, save_sealed, save_flipped, said_changed}
use Rattle.ut_plain.proofs.SaveLaws.{IsPlain-measured}
use Rattle.check_oracle.specs.Store.{Gives}

-- the state with another measure of images
abbrev pub measured : (Directory → ℕ) → Plain → Plain
measured f p = record p { image_pages = f }

abbrev pub stepped : (Directory → ℕ) → Stepped → Stepped
stepped f s = record { reply = s.reply; plain = measured f s.plain }

-- both measures agree where a savepoint is to begin
abbrev pub Agrees : (Directory → ℕ) → Plain → Statement → Type 0
Agrees f p st = st ≡ SaveBegin → f (captured_now p) ≡ p.image_pages (captured_now p)

-- ---- refusals

ops_same : (f : Directory → ℕ) (p : Plain) (session : ℕ) (os : List Op) → has_ops_room (view (measured f p) session) os ≡ has_ops_room (view p session) os
ops_same f p session [] = refl
ops_same f p session (op ∷ os) = refl

commit_same : (f : Directory → ℕ) (p : Plain) (session : ℕ) (os : List Op) → has_commit_room (view (measured f p) session) os ≡ has_commit_room (view p session) os
commit_same f p session [] = refl
commit_same f p session (op ∷ os) = refl

room_same : (f : Directory → ℕ) (p : Plain) (session : ℕ) (st : Statement) → Agrees f p st → has_room (view (measured f p) session) st ≡ has_room (view p session) st
room_same f p session (Create name columns) h = refl
room_same f p session Commit h = commit_same f p session (own_ops (open_at p.sessions session))
room_same f p session (MergeBegin name kind) h = refl
room_same f p session SaveBegin h = ap (λ n. nat_le (3 + n + p.root_pages) 4294967295) (h refl)
room_same f p session (Insert name values) h = ops_same f p session (made (view p session).tables (view p session).rows p.next_id (Insert name values))
room_same f p session (Bulk name values) h = ops_same f p session (made (view p session).tables (view p session).rows p.next_id (Bulk name values))
room_same f p session (Ask query) h = refl
room_same f p session (Update name column value preds) h = ops_same f p session (made (view p session).tables (view p session).rows p.next_id (Update name column value preds))
room_same f p session (Delete name preds) h = ops_same f p session (made (view p session).tables (view p session).rows p.next_id (Delete name preds))
room_same f p session Begin h = refl
room_same f p session Abort h = refl
room_same f p session (MergeL1 name n) h = refl
room_same f p session MergeEnd h = refl
room_same f p session (SaveStep n) h = refl
room_same f p session SaveSeal h = refl
room_same f p session SaveFlip h = refl
room_same f p session SaveDrop h = refl
room_same f p session (Shape name) h = refl

conflict_same : (f : Directory → ℕ) (p : Plain) (session : ℕ) (st : Statement) → conflict (view (measured f p) session) st ≡ conflict (view p session) st
conflict_same f p session (Update name column value preds) = refl
conflict_same f p session (Delete name preds) = refl
conflict_same f p session _ = refl

refusal_same : (f : Directory → ℕ) (p : Plain) (session : ℕ) (st : Statement) → Agrees f p st → refusal (view (measured f p) session) st ≡ refusal (view p session) st
refusal_same f p session st h = λ i.
    or_else (unless (names_known (current p.journal).tables st) refusals.Name)
    (or_else (unless (kinds_fit (current p.journal).tables st) refusals.Kind)
    (or_else (option_map refusals.State (state_why (is_some (open_at p.sessions session)) st))
    (or_else (option_map refusals.State (merge_why p.pending st))
    (or_else (option_map refusals.State (save_why p.phase st))
    (or_else (unless (room_same f p session st h i) refusals.Full)
    (option_map refusals.Conflict (conflict_same f p session st i)))))))

-- ---- what a statement does

made_same : (f : Directory → ℕ) (p : Plain) (session : ℕ) (own : Option OpenTransaction) (os : List Op) → with_made (measured f p) session own os ≡ measured f (with_made p session own os)
made_same f p session None [] = refl
made_same f p session None (op ∷ os) = refl
made_same f p session (Some t) os = refl

changed_same : (f : Directory → ℕ) (p : Plain) (session : ℕ) (st : Statement) → changed (measured f p) session st ≡ stepped f (changed p session st)
changed_same f p session st =
    let v = view p session in
    let os = made v.tables v.rows v.next_id st in
    λ i. record { reply = said_changed v.own v.commits (changes v.tables v.rows st); plain = record (made_same f p session v.own os i) { next_id = p.next_id + inserts_of os; stages = with_inserts (is_bulk st) p.stages os } }

ops_committed : (f : Directory → ℕ) (p : Plain) (session : ℕ) (os : List Op) → committed_by (measured f p) session os ≡ stepped f (committed_by p session os)
ops_committed f p session [] = refl
ops_committed f p session (op ∷ os) = refl

committed_same : (f : Directory → ℕ) (p : Plain) (session : ℕ) (own : Option OpenTransaction) → committed (measured f p) session own ≡ stepped f (committed p session own)
committed_same f p session None = refl
committed_same f p session (Some t) = ops_committed f p session t.ops

ended_same : (f : Directory → ℕ) (p : Plain) (pending : Option PendingMerge) → merge_ended (measured f p) pending ≡ stepped f (merge_ended p pending)
ended_same f p None = refl
ended_same f p (Some m) = refl

written_same : (f : Directory → ℕ) (p : Plain) (n : ℕ) (phase : Phase) → save_written (measured f p) n phase ≡ stepped f (save_written p n phase)
written_same f p n Idle = refl
written_same f p n (Writing captured done pages image) = refl
written_same f p n (Sealed captured pages image) = refl

sealed_same : (f : Directory → ℕ) (p : Plain) (phase : Phase) → save_sealed (measured f p) phase ≡ stepped f (save_sealed p phase)
sealed_same f p Idle = refl
sealed_same f p (Writing captured done pages image) = refl
sealed_same f p (Sealed captured pages image) = refl

flipped_same : (f : Directory → ℕ) (p : Plain) (phase : Phase) → save_flipped (measured f p) phase ≡ stepped f (save_flipped p phase)
flipped_same f p Idle = refl
flipped_same f p (Writing captured done pages image) = refl
flipped_same f p (Sealed captured pages image) = refl

effect_same : (f : Directory → ℕ) (p : Plain) (session : ℕ) (st : Statement) → Agrees f p st → effect_of (measured f p) session st ≡ stepped f (effect_of p session st)
effect_same f p session (Create name columns) h = refl
effect_same f p session (Insert name values) h = changed_same f p session (Insert name values)
effect_same f p session (Bulk name values) h = changed_same f p session (Bulk name values)
effect_same f p session (Update name column value preds) h = changed_same f p session (Update name column value preds)
effect_same f p session (Delete name preds) h = changed_same f p session (Delete name preds)
effect_same f p session (Ask query) h = refl
effect_same f p session Begin h = refl
effect_same f p session Commit h = committed_same f p session (open_at p.sessions session)
effect_same f p session Abort h = refl
effect_same f p session (MergeL1 name n) h = refl
effect_same f p session (MergeBegin name kind) h = refl
effect_same f p session MergeEnd h = ended_same f p p.pending
effect_same f p session (Shape name) h = refl
effect_same f p session SaveBegin h = λ i. record { reply = replies.Saving 0 (h refl i); plain = record p { phase = Writing (journal_len p.journal) 0 (h refl i) (captured_now p); image_pages = f } }
effect_same f p session (SaveStep n) h = written_same f p n p.phase
effect_same f p session SaveSeal h = sealed_same f p p.phase
effect_same f p session SaveFlip h = flipped_same f p p.phase
effect_same f p session SaveDrop h = refl

by_same : (f : Directory → ℕ) (p : Plain) (session : ℕ) (st : Statement) (o : Option Refusal) → Agrees f p st → step_by o (measured f p) session st ≡ stepped f (step_by o p session st)
by_same f p session st None h = effect_same f p session st h
by_same f p session st (Some why) h = refl

-- a step is the same for measures that agree where a savepoint begins
step_same : (f : Directory → ℕ) (p : Plain) (session : ℕ) (st : Statement) → Agrees f p st → step (measured f p) session st ≡ stepped f (step p session st)
step_same f p session st h = ap (λ o. step_by o (measured f p) session st) (refusal_same f p session st h) ∙ by_same f p session st (refusal (view p session) st) h

pub gives_measured : (f : Directory → ℕ) (p : Plain) (session : ℕ) (st : Statement) (reply : Reply) (q : Plain) → Agrees f p st → Gives (step p session st) reply q → Gives (step (measured f p) session st) reply (measured f q)
gives_measured f p session st reply q h g =
    let is = step_same f p session st h in
    record { answer = g.answer ∙ ap (λ (s : Stepped). s.reply) (sym is); state = ap (measured f) g.state ∙ ap (λ (s : Stepped). s.plain) (sym is) }

-- no rule of a plain state asks for it
pub plain_measured : (f : Directory → ℕ) (p : Plain) → IsPlain p → IsPlain (measured f p)
plain_measured f p h = IsPlain-measured p f p.phase p.root_pages h h.saving
