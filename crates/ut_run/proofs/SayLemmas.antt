-- What a line comes to.
use Rattle.std.proofs.Common.{inl, inr, ℕ, zero, suc, ◌≡◌, ◌⊎◌, Bool, true, false, List, [], ◌∷◌, Option, None, Some, refl, ap, ◌∙◌, sym, subst, arith}
use Rattle.ut_outside.specs.Disk.{View}
use Rattle.ut_value.specs.declared.entry.Op.{Op}
use Rattle.ut_plain.specs.declared.statement.Statement.{Statement}
use Rattle.ut_plain.specs.declared.statement.Statement.TheVariants as statements
use Rattle.ut_plain.specs.declared.statement.Parsed.{Parsed}
use Rattle.ut_plain.specs.declared.statement.Parsed.TheVariants.{Comment, Stranger, Bad, Good}
use Rattle.ut_plain.specs.declared.reply.Reply.{Reply}
use Rattle.ut_plain.specs.declared.reply.Reply.TheVariants as replies
use Rattle.ut_plain.specs.declared.reply.Refusal.{Refusal}
use Rattle.ut_plain.specs.declared.reply.Refusal.TheVariants as refusals
use Rattle.ut_plain.specs.declared.transaction.OpenTransaction.{OpenTransaction}
use Rattle.ut_plain.specs.Journal.{journal_len}
use Rattle.ut_plain.specs.Plain.{Plain, Phase, Idle, Writing, Sealed, open_at}
use Rattle.ut_plain.specs.View.{view}
use Rattle.ut_plain.specs.Refusals.{refusal}
use Rattle.ut_plain.specs.declared.stage.PendingMerge.{PendingMerge}
use Rattle.ut_plain.specs.Step.{merge_ended, step, step_by, effect_of, committed, committed_by, said_changed, said_alone, MayAnswer, Steps, LacksMemory, may_lack_memory, save_written, save_sealed, save_flipped}
use Rattle.ut_plain.specs.Step as steps
use Rattle.ut_plain.specs.Transcript.{Answer, AnswersLine}
use Rattle.ut_reply.specs.Texts.{reply_text, is_small}
use Rattle.ut_script.specs.Grammar.{MayLackMemory}
use Rattle.ut_engine.specs.Logged.{Logged}
use Rattle.ut_engine.specs.Runs.{Runs}
use Rattle.ut_engine.specs.Serves.{Serves, IsAnswered, IsLost}
use Rattle.ut_run.specs.declared.say.Said.{Said}
use Rattle.ut_run.specs.declared.say.Said.TheVariants as saids
use Rattle.ut_course.specs.Keeping.{Keeps}
use Rattle.ut_course.proofs.ComeLemmas.{not_bare}
use Rattle.ut_course.proofs.KeepLemmas.{OnlyNow, still}
use Rattle.ut_run.specs.Saying.{IsText, Whole, Lacking, Outcome, Quiet, Replied, Failed, Says, said_of, MayFault}

-- ---- long replies

-- what a reply that is not small comes from: nothing was changed, and memory might have been wanting
pub record IsLong (p : Plain) (st : Statement) (q : Plain) : Type 0 where
  pub same : q ≡ p
  pub may : may_lack_memory st ≡ true

committed_small : (p : Plain) (session : ℕ) (t : Option OpenTransaction) → is_small (committed p session t).reply ≡ true
committed_small p session None = refl
committed_small p session (Some t) = by_ops p session t.ops
  where
    by_ops : (p : Plain) (session : ℕ) (ops : List Op) → is_small (committed_by p session ops).reply ≡ true
    by_ops p session [] = refl
    by_ops p session (op ∷ ops) = refl

changed_small : (own : Option OpenTransaction) (commits rows : ℕ) → is_small (said_changed own commits rows) ≡ true
changed_small (Some t) commits rows = refl
changed_small None commits rows = alone rows
  where
    alone : (rows : ℕ) → is_small (said_alone commits rows) ≡ true
    alone zero = refl
    alone (suc n) = refl

never : {A : Type 0} (b : Bool) → b ≡ true → b ≡ false → A
never true h k = cc
never false h k = cc

merge_small : (p : Plain) (pending : Option PendingMerge) → is_small (merge_ended p pending).reply ≡ true
merge_small p None = refl
merge_small p (Some m) = refl

written_small : (p : Plain) (n : ℕ) (phase : Phase) → is_small (save_written p n phase).reply ≡ true
written_small p n Idle = refl
written_small p n (Writing captured done pages image) = refl
written_small p n (Sealed captured pages image) = refl

sealed_small : (p : Plain) (phase : Phase) → is_small (save_sealed p phase).reply ≡ true
sealed_small p Idle = refl
sealed_small p (Writing captured done pages image) = refl
sealed_small p (Sealed captured pages image) = refl

flipped_small : (p : Plain) (phase : Phase) → is_small (save_flipped p phase).reply ≡ true
flipped_small p Idle = refl
flipped_small p (Writing captured done pages image) = refl
flipped_small p (Sealed captured pages image) = refl

long_effect : (p : Plain) (session : ℕ) (st : Statement) → is_small (effect_of p session st).reply ≡ false → IsLong p st (effect_of p session st).plain
long_effect p session (statements.Create a b) h = cc
long_effect p session (statements.Insert a b) h = never (is_small (effect_of p session (statements.Insert a b)).reply) (changed_small (view p session).own (view p session).commits 1) h
long_effect p session (statements.Bulk a b) h = never (is_small (effect_of p session (statements.Bulk a b)).reply) (changed_small (view p session).own (view p session).commits _) h
long_effect p session (statements.Ask q) h = record { same = refl; may = refl }
long_effect p session (statements.Update a b c d) h = never (is_small (effect_of p session (statements.Update a b c d)).reply) (changed_small (view p session).own (view p session).commits _) h
long_effect p session (statements.Delete a b) h = never (is_small (effect_of p session (statements.Delete a b)).reply) (changed_small (view p session).own (view p session).commits _) h
long_effect p session statements.Begin h = cc
long_effect p session statements.Commit h = never (is_small (committed p session (open_at p.sessions session)).reply) (committed_small p session (open_at p.sessions session)) h
long_effect p session statements.Abort h = cc
long_effect p session (statements.MergeL1 a b) h = cc
long_effect p session (statements.MergeBegin a b) h = cc
long_effect p session statements.MergeEnd h = never (is_small (merge_ended p p.pending).reply) (merge_small p p.pending) h
long_effect p session statements.SaveBegin h = cc
long_effect p session (statements.SaveStep n) h = never (is_small (save_written p n p.phase).reply) (written_small p n p.phase) h
long_effect p session statements.SaveSeal h = never (is_small (save_sealed p p.phase).reply) (sealed_small p p.phase) h
long_effect p session statements.SaveFlip h = never (is_small (save_flipped p p.phase).reply) (flipped_small p p.phase) h
long_effect p session statements.SaveDrop h = cc
long_effect p session (statements.Shape a) h = record { same = refl; may = refl }

long_by : (why : Option Refusal) (p : Plain) (session : ℕ) (st : Statement) → is_small (step_by why p session st).reply ≡ false → IsLong p st (step_by why p session st).plain
long_by (Some why) p session st h = cc
long_by None p session st h = long_effect p session st h

pub long_answer : (p : Plain) (session : ℕ) (st : Statement) (reply : Reply) (q : Plain) → MayAnswer p session st reply q → is_small reply ≡ false → IsLong p st q
long_answer p session st reply q (Steps e f) h =
    let l = long_by (refusal (view p session) st) p session st (sym (ap is_small e) ∙ h) in
    record { same = f ∙ l.same; may = l.may }
long_answer p session st reply q (LacksMemory m e f) h = never (is_small reply) (ap is_small e) h

-- ---- statements

with_text : {room : ℕ} → (p : Plain) (session : ℕ) (st : Statement) (reply : Reply) (q : Plain) (before after : View) (new : Logged) (text : List ℕ) → IsText room session reply text → said_of reply ≡ saids.Reply
    → MayAnswer p session st reply q → Runs new after q → Keeps before after q.journal (journal_len p.journal) → Outcome p (Good session st) before saids.Reply new after text
with_text p session st reply q before after new text (Whole t) said may runs keeps =
    Replied (record { session = Some session; reply = reply }) q refl (record { reply = reply; is = refl; may = may }) runs keeps t
with_text p session st reply q before after new text (Lacking long _ t) said may runs keeps =
    let l = long_answer p session st reply q may long in
    Replied (record { session = Some session; reply = replies.Refused refusals.Memory }) q refl (record { reply = replies.Refused refusals.Memory; is = refl; may = LacksMemory l.may refl l.same }) runs keeps t

lost_text : {room : ℕ} → (p : Plain) (session : ℕ) (st : Statement) (before after : View) (new : Logged) (text : List ℕ) → IsText room session replies.DiskFault text
    → steps.MayFault p session st → Keeps before after (step p session st).plain.journal (journal_len p.journal) → Outcome p (Good session st) before saids.Fault new after text
lost_text p session st before after new text (Whole t) may keeps =
    Failed (record { session = Some session; reply = replies.DiskFault }) (step p session st).plain refl (record { session = session; st = st; is_line = refl; answered = refl; steps = refl; may = may }) keeps t
lost_text p session st before after new text (Lacking long _ t) may keeps = cc

is_reply : (reply : Reply) → (reply ≡ replies.DiskFault → ⊥) → said_of reply ≡ saids.Reply
is_reply replies.Done h = refl
is_reply (replies.Committed n) h = refl
is_reply (replies.Changed a b) h = refl
is_reply (replies.Rows a) h = refl
is_reply (replies.Groups a) h = refl
is_reply (replies.Count a) h = refl
is_reply (replies.Sum a) h = refl
is_reply (replies.Min a) h = refl
is_reply (replies.Max a) h = refl
is_reply (replies.Moved a) h = refl
is_reply (replies.Merge a) h = refl
is_reply (replies.Saving a b) h = refl
is_reply (replies.Sealed a) h = refl
is_reply (replies.Root a) h = refl
is_reply (replies.Shape a) h = refl
is_reply (replies.Refused a) h = refl
is_reply replies.DiskFault h = absurd (h refl)

says_by : (room : ℕ) (p : Plain) (old : Logged) (before : View) (session : ℕ) (st : Statement) (reply : Reply) (new : Logged) (after : View) (text : List ℕ) → IsText room session reply text
    → IsAnswered p before session st reply new after ⊎ IsLost p before session st reply new after → Outcome p (Good session st) before (said_of reply) new after text
says_by room p old before session st reply new after text is (inl a) =
    let said = is_reply reply a.sound in
    subst (λ s. Outcome p (Good session st) before s new after text) (sym said) (with_text p session st reply a.plain before after new text is said a.may a.runs a.any_moment)
says_by room p old before session st reply new after text is (inr l) =
    let fault : IsText room session replies.DiskFault text = subst (λ (r : Reply). IsText room session r text) l.fault is in
    subst (λ (r : Reply). Outcome p (Good session st) before (said_of r) new after text) (sym l.fault) (lost_text p session st before after new text fault l.may l.any_moment)

pub says_statement : {room : ℕ} → (old : Logged) (before : View) (session : ℕ) (st : Statement) (reply : Reply) (new : Logged) (after : View) (text : List ℕ) (said : Said) → Serves old before session st reply new after → IsText room session reply text → said ≡ said_of reply
    → Says old before (Good session st) said new after text
says_statement old before session st reply new after text said serves is e = record {
  each = λ p runs.
      subst (λ s. Outcome p (Good session st) before s new after text) (sym e) (says_by _ p old before session st reply new after text is (serves.each p runs));
}

-- ---- the faults of the disk

fault_of : (reply : Reply) → said_of reply ≡ saids.Fault → reply ≡ replies.DiskFault
fault_of replies.Done h = cc
fault_of (replies.Committed n) h = cc
fault_of (replies.Changed a b) h = cc
fault_of (replies.Rows a) h = cc
fault_of (replies.Groups a) h = cc
fault_of (replies.Count a) h = cc
fault_of (replies.Sum a) h = cc
fault_of (replies.Min a) h = cc
fault_of (replies.Max a) h = cc
fault_of (replies.Moved a) h = cc
fault_of (replies.Merge a) h = cc
fault_of (replies.Saving a b) h = cc
fault_of (replies.Sealed a) h = cc
fault_of (replies.Root a) h = cc
fault_of (replies.Shape a) h = cc
fault_of (replies.Refused a) h = cc
fault_of replies.DiskFault h = refl

pub said_faults : (old : Logged) (before : View) (session : ℕ) (st : Statement) (reply : Reply) (new : Logged) (after : View) (said : Said) → Serves old before session st reply new after → said ≡ said_of reply → MayFault before after said
said_faults old before session st reply new after said s e = record {
  told = s.told;
  no_fewer = s.later;
  cause = λ is. s.cause (fault_of reply (sym e ∙ is));
  still = λ not. s.still (λ is. not (e ∙ ap said_of is));
}

-- ---- other lines

pub says_nothing : (e : Logged) (v : View) (line : Parsed) (said : Said) (text : List ℕ) → OnlyNow v → line ≡ Comment → said ≡ saids.Nothing → text ≡ [] → Says e v line said e v text
says_nothing e v line said text only is k t = record { each = λ p runs. Quiet p k (subst (λ (l : Parsed). AnswersLine p l [] p) (sym is) (refl, refl)) runs (still e v p only runs) t }

pub says_stranger : (e : Logged) (v : View) (line : Parsed) (said : Said) (text : List ℕ) → OnlyNow v → line ≡ Stranger → said ≡ saids.Reply → text ≡ reply_text None (replies.Refused refusals.Syntax) → Says e v line said e v text
says_stranger e v line said text only is k t =
    let a : Answer = record { session = None; reply = replies.Refused refusals.Syntax } in
    record { each = λ p runs. Replied a p k (subst (λ (l : Parsed). AnswersLine p l (a ∷ []) p) (sym is) (refl, refl)) runs (still e v p only runs) t }

pub says_bad : (e : Logged) (v : View) (line : Parsed) (session : ℕ) (said : Said) (text : List ℕ) → OnlyNow v → line ≡ Bad session → said ≡ saids.Reply → text ≡ reply_text (Some session) (replies.Refused refusals.Syntax) → Says e v line said e v text
says_bad e v line session said text only is k t =
    let a : Answer = record { session = Some session; reply = replies.Refused refusals.Syntax } in
    record { each = λ p runs. Replied a p k (subst (λ (l : Parsed). AnswersLine p l (a ∷ []) p) (sym is) (refl, refl)) runs (still e v p only runs) t }

pub lacks : (p : Plain) (line : Parsed) (session : ℕ) → MayLackMemory session line → AnswersLine p line (record { session = Some session; reply = replies.Refused refusals.Memory } ∷ []) p
lacks p Comment session h = absurd h
lacks p Stranger session h = absurd h
lacks p (Bad n) session h = absurd h
lacks p (Good owner st) session h = record {
  reply = replies.Refused refusals.Memory;
  is = ap (λ (n : ℕ). record { session = Some n; reply = replies.Refused refusals.Memory } ∷ []) (sym h.0);
  may = LacksMemory (not_bare st h.1) refl refl;
}

pub says_lacking : (e : Logged) (v : View) (line : Parsed) (session : ℕ) (said : Said) (text : List ℕ) → OnlyNow v → MayLackMemory session line → said ≡ saids.Reply → text ≡ reply_text (Some session) (replies.Refused refusals.Memory) → Says e v line said e v text
says_lacking e v line session said text only may k t =
    let a : Answer = record { session = Some session; reply = replies.Refused refusals.Memory } in
    record { each = λ p runs. Replied a p k (lacks p line session may) runs (still e v p only runs) t }
