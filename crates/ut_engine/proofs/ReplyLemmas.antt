-- No statement is answered by itself that the disk failed, and one that adds an entry is answered by its step.
use Rattle.std.proofs.Common.{◌≡◌, ℕ, zero, suc, List, [], ◌∷◌, Option, None, Some, sym, ◌∙◌, ap, arith}
use Rattle.ut_value.specs.declared.entry.Entry.{Entry}
use Rattle.ut_value.specs.declared.entry.Op.{Op}
use Rattle.ut_plain.specs.declared.transaction.OpenTransaction.{OpenTransaction}
use Rattle.ut_plain.specs.declared.table.Table.{Table}
use Rattle.ut_plain.specs.declared.table.Stored.{Stored}
use Rattle.ut_plain.specs.declared.statement.Query.{Query}
use Rattle.ut_plain.specs.declared.statement.Query.TheVariants.{Select, Count, Sum, Min, Max, Group, Join}
use Rattle.ut_plain.specs.declared.statement.Statement.{Statement}
use Rattle.ut_plain.specs.declared.statement.Statement.TheVariants as statements
use Rattle.ut_plain.specs.declared.reply.Reply.{Reply}
use Rattle.ut_plain.specs.declared.reply.Reply.TheVariants.{DiskFault}
use Rattle.ut_plain.specs.declared.reply.Refusal.{Refusal}
use Rattle.ut_plain.specs.Journal.{journal_len, appended}
use Rattle.ut_plain.specs.Plain.{Plain, Phase, Idle, Writing, Sealed, open_at}
use Rattle.ut_plain.specs.View.{view}
use Rattle.ut_plain.specs.Query.{told}
use Rattle.ut_plain.specs.Refusals.{refusal}
use Rattle.ut_plain.specs.declared.stage.PendingMerge.{PendingMerge}
use Rattle.ut_plain.specs.Step.{step, step_by, effect_of, merge_ended, save_written, save_sealed, save_flipped, said_alone, said_changed, committed, committed_by, MayAnswer, Steps, LacksMemory}
use Rattle.ut_plain.proofs.JournalLaws.{journal_len-appended}

alone_sound : (commits rows : ℕ) → said_alone commits rows ≡ DiskFault → ⊥
alone_sound commits zero e = cc
alone_sound commits (suc n) e = cc

changed_sound : (own : Option OpenTransaction) (commits rows : ℕ) → said_changed own commits rows ≡ DiskFault → ⊥
changed_sound (Some t) commits rows e = cc
changed_sound None commits rows e = alone_sound commits rows e

told_sound : (tables : List Table) (rows : List (ℕ × Stored)) (query : Query) → told tables rows query ≡ DiskFault → ⊥
told_sound tables rows (Select name names preds) e = cc
told_sound tables rows (Count name preds) e = cc
told_sound tables rows (Sum name column preds) e = cc
told_sound tables rows (Min name column preds) e = cc
told_sound tables rows (Max name column preds) e = cc
told_sound tables rows (Group name key sum preds) e = cc
told_sound tables rows (Join left c right d) e = cc

committed_by_sound : (p : Plain) (session : ℕ) (ops : List Op) → (committed_by p session ops).reply ≡ DiskFault → ⊥
committed_by_sound p session [] e = cc
committed_by_sound p session (op ∷ ops) e = cc

committed_sound : (p : Plain) (session : ℕ) (own : Option OpenTransaction) → (committed p session own).reply ≡ DiskFault → ⊥
committed_sound p session None e = cc
committed_sound p session (Some t) e = committed_by_sound p session t.ops e

ended_sound : (p : Plain) (pending : Option PendingMerge) → (merge_ended p pending).reply ≡ DiskFault → ⊥
ended_sound p None e = cc
ended_sound p (Some m) e = cc

written_sound : (p : Plain) (n : ℕ) (phase : Phase) → (save_written p n phase).reply ≡ DiskFault → ⊥
written_sound p n Idle e = cc
written_sound p n (Writing captured done pages image) e = cc
written_sound p n (Sealed captured pages image) e = cc

sealed_sound : (p : Plain) (phase : Phase) → (save_sealed p phase).reply ≡ DiskFault → ⊥
sealed_sound p Idle e = cc
sealed_sound p (Writing captured done pages image) e = cc
sealed_sound p (Sealed captured pages image) e = cc

flipped_sound : (p : Plain) (phase : Phase) → (save_flipped p phase).reply ≡ DiskFault → ⊥
flipped_sound p Idle e = cc
flipped_sound p (Writing captured done pages image) e = cc
flipped_sound p (Sealed captured pages image) e = cc

effect_sound : (p : Plain) (session : ℕ) (st : Statement) → (effect_of p session st).reply ≡ DiskFault → ⊥
effect_sound p session (statements.Create name columns) e = cc
effect_sound p session (statements.Insert name values) e = changed_sound (view p session).own _ _ e
effect_sound p session (statements.Bulk name values) e = changed_sound (view p session).own _ _ e
effect_sound p session (statements.Update name column value preds) e = changed_sound (view p session).own _ _ e
effect_sound p session (statements.Delete name preds) e = changed_sound (view p session).own _ _ e
effect_sound p session (statements.Ask query) e = told_sound (view p session).tables (view p session).rows query e
effect_sound p session statements.Begin e = cc
effect_sound p session statements.Commit e = committed_sound p session (open_at p.sessions session) e
effect_sound p session statements.Abort e = cc
effect_sound p session (statements.MergeL1 name n) e = cc
effect_sound p session (statements.MergeBegin name kind) e = cc
effect_sound p session statements.MergeEnd e = ended_sound p p.pending e
effect_sound p session statements.SaveBegin e = cc
effect_sound p session (statements.SaveStep n) e = written_sound p n p.phase e
effect_sound p session statements.SaveSeal e = sealed_sound p p.phase e
effect_sound p session statements.SaveFlip e = flipped_sound p p.phase e
effect_sound p session statements.SaveDrop e = cc
effect_sound p session (statements.Shape name) e = cc

step_by_sound : (why : Option Refusal) (p : Plain) (session : ℕ) (st : Statement) → (step_by why p session st).reply ≡ DiskFault → ⊥
step_by_sound (Some why) p session st e = cc
step_by_sound None p session st e = effect_sound p session st e

pub answer_sound : (p : Plain) (session : ℕ) (st : Statement) (reply : Reply) (q : Plain) → MayAnswer p session st reply q → reply ≡ DiskFault → ⊥
answer_sound p session st reply q (Steps r s) e = step_by_sound (refusal (view p session) st) p session st (sym r ∙ e)
answer_sound p session st reply q (LacksMemory m r s) e = cc

-- where an entry was added, memory wasn't wanting
pub step_adds : (p : Plain) (session : ℕ) (st : Statement) (reply : Reply) (q : Plain) (entry : Entry) → MayAnswer p session st reply q → q.journal ≡ appended p.journal entry → q ≡ (step p session st).plain
step_adds p session st reply q entry (Steps r s) next = s
step_adds p session st reply q entry (LacksMemory m r s) next =
    absurd (omega (arith, journal_len-appended p.journal entry, ap journal_len next, ap (λ (x : Plain). journal_len x.journal) s))
