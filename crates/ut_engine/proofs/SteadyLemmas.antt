-- A statement that isn't one of the savepoint leaves it as it is, and the pages that the selected root reaches.
use Rattle.std.proofs.Common.{◌≡◌, ℕ, false, List, [], ◌∷◌, Option, None, Some, refl, sym, subst}
use Rattle.ut_value.specs.declared.entry.Op.{Op}
use Rattle.ut_plain.specs.declared.transaction.OpenTransaction.{OpenTransaction}
use Rattle.ut_plain.specs.declared.stage.PendingMerge.{PendingMerge}
use Rattle.ut_plain.specs.declared.statement.Statement.{Statement}
use Rattle.ut_plain.specs.declared.statement.Statement.TheVariants as statements
use Rattle.ut_plain.specs.declared.reply.Reply.{Reply}
use Rattle.ut_plain.specs.declared.reply.Refusal.{Refusal}
use Rattle.ut_plain.specs.Made.{made}
use Rattle.ut_plain.specs.Plain.{Plain, open_at}
use Rattle.ut_plain.specs.Refusals.{is_save, refusal}
use Rattle.ut_plain.specs.Step.{step_by, effect_of, with_txn, with_made, changed, committed_by, committed, merge_ended, MayAnswer, Steps, LacksMemory}
use Rattle.ut_plain.specs.View.{view}

pub record Steady (p q : Plain) : Type 0 where
  pub phase : q.phase ≡ p.phase
  pub measure : q.image_pages ≡ p.image_pages
  pub pages : q.root_pages ≡ p.root_pages

txn_steady : (p : Plain) (ops : List Op) → Steady p (with_txn p ops)
txn_steady p [] = record { phase = refl; measure = refl; pages = refl }
txn_steady p (op ∷ ops) = record { phase = refl; measure = refl; pages = refl }

made_steady : (p : Plain) (session : ℕ) (own : Option OpenTransaction) (ops : List Op) → Steady p (with_made p session own ops)
made_steady p session None ops = txn_steady p ops
made_steady p session (Some t) ops = record { phase = refl; measure = refl; pages = refl }

changed_steady : (p : Plain) (session : ℕ) (st : Statement) → Steady p (changed p session st).plain
changed_steady p session st =
    let v = view p session in
    let h = made_steady p session v.own (made v.tables v.rows v.next_id st) in
    record { phase = h.phase; measure = h.measure; pages = h.pages }

committed_by_steady : (p : Plain) (session : ℕ) (ops : List Op) → Steady p (committed_by p session ops).plain
committed_by_steady p session [] = record { phase = refl; measure = refl; pages = refl }
committed_by_steady p session (op ∷ ops) = record { phase = refl; measure = refl; pages = refl }

committed_steady : (p : Plain) (session : ℕ) (own : Option OpenTransaction) → Steady p (committed p session own).plain
committed_steady p session None = record { phase = refl; measure = refl; pages = refl }
committed_steady p session (Some t) = committed_by_steady p session t.ops

ended_steady : (p : Plain) (pending : Option PendingMerge) → Steady p (merge_ended p pending).plain
ended_steady p None = record { phase = refl; measure = refl; pages = refl }
ended_steady p (Some m) = record { phase = refl; measure = refl; pages = refl }

effect_steady : (p : Plain) (session : ℕ) (st : Statement) → is_save st ≡ false → Steady p (effect_of p session st).plain
effect_steady p session (statements.Create name columns) served = record { phase = refl; measure = refl; pages = refl }
effect_steady p session (statements.Insert name values) served = changed_steady p session (statements.Insert name values)
effect_steady p session (statements.Bulk name values) served = changed_steady p session (statements.Bulk name values)
effect_steady p session (statements.Update name column value preds) served = changed_steady p session (statements.Update name column value preds)
effect_steady p session (statements.Delete name preds) served = changed_steady p session (statements.Delete name preds)
effect_steady p session (statements.Ask query) served = record { phase = refl; measure = refl; pages = refl }
effect_steady p session statements.Begin served = record { phase = refl; measure = refl; pages = refl }
effect_steady p session statements.Commit served = committed_steady p session (open_at p.sessions session)
effect_steady p session statements.Abort served = record { phase = refl; measure = refl; pages = refl }
effect_steady p session (statements.MergeL1 name n) served = record { phase = refl; measure = refl; pages = refl }
effect_steady p session (statements.MergeBegin name kind) served = record { phase = refl; measure = refl; pages = refl }
effect_steady p session statements.MergeEnd served = ended_steady p p.pending
effect_steady p session (statements.Shape name) served = record { phase = refl; measure = refl; pages = refl }
effect_steady p session statements.SaveBegin served = absurd cc
effect_steady p session (statements.SaveStep n) served = absurd cc
effect_steady p session statements.SaveSeal served = absurd cc
effect_steady p session statements.SaveFlip served = absurd cc
effect_steady p session statements.SaveDrop served = absurd cc

step_steady : (why : Option Refusal) (p : Plain) (session : ℕ) (st : Statement) → is_save st ≡ false → Steady p (step_by why p session st).plain
step_steady (Some why) p session st served = record { phase = refl; measure = refl; pages = refl }
step_steady None p session st served = effect_steady p session st served

pub answer_steady : (p : Plain) (session : ℕ) (st : Statement) (reply : Reply) (q : Plain) → is_save st ≡ false → MayAnswer p session st reply q → Steady p q
answer_steady p session st reply q served (Steps r s) = subst (Steady p) (sym s) (step_steady (refusal (view p session) st) p session st served)
answer_steady p session st reply q served (LacksMemory m r s) = subst (Steady p) (sym s) (record { phase = refl; measure = refl; pages = refl })
