-- Answers to lines, one line more at a time.
use Rattle.std.proofs.Common.{ℕ, ◌+◌, ◌≡◌, List, [], ◌∷◌, ◌++◌, refl, sym, ap, ◌∙◌, subst, append_assoc, append-nil, Option, None, Some}
use Rattle.std.specs.Prelude.{map}
use Rattle.ut_value.specs.declared.entry.Op.{Op}
use Rattle.ut_value.specs.declared.entry.Entry.TheVariants as entries
use Rattle.ut_plain.specs.declared.statement.Parsed.{Parsed}
use Rattle.ut_plain.specs.declared.statement.Parsed.TheVariants.{Comment, Stranger, Bad, Good}
use Rattle.ut_plain.specs.declared.statement.Statement.{Statement}
use Rattle.ut_plain.specs.declared.statement.Statement.TheVariants as statements
use Rattle.ut_plain.specs.declared.transaction.OpenTransaction.{OpenTransaction}
use Rattle.ut_plain.specs.declared.reply.Reply.{Reply}
use Rattle.ut_plain.specs.declared.reply.Refusal.{Refusal}
use Rattle.ut_plain.specs.Journal.{journal_len, current}
use Rattle.ut_plain.specs.Plain.{Plain, Phase, Idle, Writing, Sealed, open_at}
use Rattle.ut_plain.specs.View.{view}
use Rattle.ut_plain.specs.Refusals.{refusal}
use Rattle.ut_plain.specs.Made.{made}
use Rattle.ut_plain.specs.declared.stage.PendingMerge.{PendingMerge}
use Rattle.ut_plain.specs.Tables.{place_in}
use Rattle.ut_plain.specs.Step.{merge_ended, step, step_by, effect_of, with_txn, with_made, committed, committed_by, MayAnswer, Steps, LacksMemory, save_written, save_sealed, save_flipped}
use Rattle.ut_plain.specs.Transcript.{Answer, AnswersLine, Faults}
use Rattle.ut_course.specs.Telling.{Tells}
use Rattle.ut_course.specs.Keeping.{GoesOn}
use Rattle.ut_course.proofs.KeepLemmas.{goes_nowhere}

-- ---- one line more

pub tells_more : (p : Plain) (lines : List Parsed) (answers : List Answer) (lengths : List ℕ) (q : Plain) (line : Parsed) (here : List Answer) (r : Plain) → Tells p lines answers lengths q → AnswersLine q line here r
    → Tells p (lines ++ line ∷ []) (answers ++ here) (lengths ++ map (λ (a : Answer). journal_len r.journal) here) r
tells_more p [] answers lengths q line here r t a =
    let now = map (λ (a : Answer). journal_len r.journal) here in
    (here, [], now, [], r, ap (λ (xs : List Answer). xs ++ here) t.0 ∙ sym (append-nil here), ap (λ (xs : List ℕ). xs ++ now) t.1 ∙ sym (append-nil now), (subst (λ (s : Plain). AnswersLine s line here r) t.2 a, refl), (refl, refl, refl))
tells_more p (first ∷ lines) answers lengths q line here r t a =
    let now = map (λ (a : Answer). journal_len r.journal) here in
    let next = tells_more t.4 lines t.1 t.3 q line here r t.8 a in
    (t.0, t.1 ++ here, t.2, t.3 ++ now, t.4, ap (λ (xs : List Answer). xs ++ here) t.5 ∙ append_assoc t.0 t.1 here, ap (λ (xs : List ℕ). xs ++ now) t.6 ∙ append_assoc t.2 t.3 now, t.7, next)

-- ---- the journal only grows

txn_on : (p : Plain) (ops : List Op) → GoesOn p.journal (with_txn p ops).journal
txn_on p [] = goes_nowhere p.journal
txn_on p (op ∷ ops) = record { more = entries.Txn (op ∷ ops) ∷ []; is = refl }

made_on : (p : Plain) (session : ℕ) (own : Option OpenTransaction) (ops : List Op) → GoesOn p.journal (with_made p session own ops).journal
made_on p session None ops = txn_on p ops
made_on p session (Some t) ops = goes_nowhere p.journal

commit_on : (p : Plain) (session : ℕ) (ops : List Op) → GoesOn p.journal (committed_by p session ops).plain.journal
commit_on p session [] = goes_nowhere p.journal
commit_on p session (op ∷ ops) = record { more = entries.Txn (op ∷ ops) ∷ []; is = refl }

ended_on : (p : Plain) (session : ℕ) (t : Option OpenTransaction) → GoesOn p.journal (committed p session t).plain.journal
ended_on p session None = goes_nowhere p.journal
ended_on p session (Some t) = commit_on p session t.ops

merge_on : (p : Plain) (pending : Option PendingMerge) → GoesOn p.journal (merge_ended p pending).plain.journal
merge_on p None = goes_nowhere p.journal
merge_on p (Some m) = record { more = entries.Ended m.number ∷ []; is = refl }

written_on : (p : Plain) (n : ℕ) (phase : Phase) → GoesOn p.journal (save_written p n phase).plain.journal
written_on p n Idle = goes_nowhere p.journal
written_on p n (Writing captured done pages image) = goes_nowhere p.journal
written_on p n (Sealed captured pages image) = goes_nowhere p.journal

sealed_on : (p : Plain) (phase : Phase) → GoesOn p.journal (save_sealed p phase).plain.journal
sealed_on p Idle = goes_nowhere p.journal
sealed_on p (Writing captured done pages image) = goes_nowhere p.journal
sealed_on p (Sealed captured pages image) = goes_nowhere p.journal

flipped_on : (p : Plain) (phase : Phase) → GoesOn p.journal (save_flipped p phase).plain.journal
flipped_on p Idle = goes_nowhere p.journal
flipped_on p (Writing captured done pages image) = goes_nowhere p.journal
flipped_on p (Sealed captured pages image) = goes_nowhere p.journal

effect_on : (p : Plain) (session : ℕ) (st : Statement) → GoesOn p.journal (effect_of p session st).plain.journal
effect_on p session (statements.Create name columns) = record { more = entries.Create name columns ∷ []; is = refl }
effect_on p session (statements.Insert a b) = made_on p session (view p session).own (made (view p session).tables (view p session).rows (view p session).next_id (statements.Insert a b))
effect_on p session (statements.Bulk a b) = made_on p session (view p session).own (made (view p session).tables (view p session).rows (view p session).next_id (statements.Bulk a b))
effect_on p session (statements.Ask q) = goes_nowhere p.journal
effect_on p session (statements.Update a b c d) = made_on p session (view p session).own (made (view p session).tables (view p session).rows (view p session).next_id (statements.Update a b c d))
effect_on p session (statements.Delete a b) = made_on p session (view p session).own (made (view p session).tables (view p session).rows (view p session).next_id (statements.Delete a b))
effect_on p session statements.Begin = goes_nowhere p.journal
effect_on p session statements.Commit = ended_on p session (open_at p.sessions session)
effect_on p session statements.Abort = goes_nowhere p.journal
effect_on p session (statements.MergeL1 a b) = goes_nowhere p.journal
effect_on p session (statements.MergeBegin a b) = record { more = entries.Begun ((current p.journal).merges + 1) (place_in (current p.journal).tables a) b ∷ []; is = refl }
effect_on p session statements.MergeEnd = merge_on p p.pending
effect_on p session statements.SaveBegin = goes_nowhere p.journal
effect_on p session (statements.SaveStep n) = written_on p n p.phase
effect_on p session statements.SaveSeal = sealed_on p p.phase
effect_on p session statements.SaveFlip = flipped_on p p.phase
effect_on p session statements.SaveDrop = goes_nowhere p.journal
effect_on p session (statements.Shape a) = goes_nowhere p.journal

step_by_on : (why : Option Refusal) (p : Plain) (session : ℕ) (st : Statement) → GoesOn p.journal (step_by why p session st).plain.journal
step_by_on (Some why) p session st = goes_nowhere p.journal
step_by_on None p session st = effect_on p session st

pub step_on : (p : Plain) (session : ℕ) (st : Statement) → GoesOn p.journal (step p session st).plain.journal
step_on p session st = step_by_on (refusal (view p session) st) p session st

same_on : (p q : Plain) → q ≡ p → GoesOn p.journal q.journal
same_on p q e = subst (λ (r : Plain). GoesOn p.journal r.journal) (sym e) (goes_nowhere p.journal)

may_on : (p : Plain) (session : ℕ) (st : Statement) (reply : Reply) (q : Plain) → MayAnswer p session st reply q → GoesOn p.journal q.journal
may_on p session st reply q (Steps e f) = subst (λ (r : Plain). GoesOn p.journal r.journal) (sym f) (step_on p session st)
may_on p session st reply q (LacksMemory m e f) = same_on p q f

pub line_on : (p : Plain) (line : Parsed) (here : List Answer) (q : Plain) → AnswersLine p line here q → GoesOn p.journal q.journal
line_on p Comment here q a = same_on p q a.1
line_on p Stranger here q a = same_on p q a.1
line_on p (Bad session) here q a = same_on p q a.1
line_on p (Good session st) here q a = may_on p session st a.reply q a.may

pub fault_on : (p : Plain) (line : Parsed) (here : List Answer) (q : Plain) → Faults p line here q → GoesOn p.journal q.journal
fault_on p line here q f = subst (λ (r : Plain). GoesOn p.journal r.journal) (sym f.steps) (step_on p f.session f.st)
