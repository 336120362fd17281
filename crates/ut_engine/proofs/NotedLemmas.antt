-- What is noted of the journal's next id stays the plain store's, with each statement and at an opening.
use Rattle.std.proofs.Common.{◌≡◌, ℕ, zero, suc, ◌<◌, Bool, true, false, cond, nat_lt, replicate, None, refl, sym, subst, IsTrue}
use Rattle.ut_plain.specs.declared.statement.Statement.{Statement}
use Rattle.ut_plain.specs.declared.statement.Statement.TheVariants as statements
use Rattle.ut_plain.specs.declared.reply.Reply.{Reply}
use Rattle.ut_plain.specs.declared.reply.Reply.TheVariants as replies
use Rattle.ut_plain.specs.declared.reply.Refusal.{Refusal}
use Rattle.ut_plain.specs.declared.reply.Refusal.TheVariants as refusals
use Rattle.ut_plain.specs.Journal.{Journal, current}
use Rattle.ut_plain.specs.Rows.{next_after}
use Rattle.ut_plain.specs.Plain.{Plain, open_at, Opening, opened_store}
use Rattle.ut_plain.specs.Reached.{IsPlain}
use Rattle.ut_plain.specs.Spelled.{is_spelled}
use Rattle.ut_plain.specs.Step.{step, MayAnswer, Steps, LacksMemory}
use Rattle.ut_plain.specs.View.{own_ops}
use Rattle.ut_nextid.specs.NextIds.{Noted, Keeps, noted, nobody, own_at}
use Rattle.ut_nextid.proofs.NoteLaws.{note_keeps}

-- ---- with a statement

pub same_both : {X : Type 0} (b : Bool) (x : X) → cond b x x ≡ x
same_both true x = refl
same_both false x = refl

-- a refusal notes nothing
pub noted_refused : (n : Noted) (session : ℕ) (st : Statement) (why : Refusal) (before after : ℕ) → noted n session st (replies.Refused why) before after ≡ n
noted_refused n session (statements.Create name columns) why before after = same_both (nat_lt before after) n
noted_refused n session (statements.Insert name values) why before after = same_both (nat_lt before after) n
noted_refused n session (statements.Bulk name values) why before after = same_both (nat_lt before after) n
noted_refused n session (statements.Update name column value preds) why before after = same_both (nat_lt before after) n
noted_refused n session (statements.Delete name preds) why before after = same_both (nat_lt before after) n
noted_refused n session (statements.Ask query) why before after = same_both (nat_lt before after) n
noted_refused n session statements.Begin why before after = same_both (nat_lt before after) n
noted_refused n session statements.Commit why before after = refl
noted_refused n session statements.Abort why before after = refl
noted_refused n session (statements.MergeL1 name m) why before after = same_both (nat_lt before after) n
noted_refused n session (statements.MergeBegin name kind) why before after = same_both (nat_lt before after) n
noted_refused n session statements.MergeEnd why before after = same_both (nat_lt before after) n
noted_refused n session statements.SaveBegin why before after = same_both (nat_lt before after) n
noted_refused n session (statements.SaveStep m) why before after = same_both (nat_lt before after) n
noted_refused n session statements.SaveSeal why before after = same_both (nat_lt before after) n
noted_refused n session statements.SaveFlip why before after = same_both (nat_lt before after) n
noted_refused n session statements.SaveDrop why before after = same_both (nat_lt before after) n
noted_refused n session (statements.Shape name) why before after = same_both (nat_lt before after) n

pub answer_noted : (n : Noted) (p : Plain) (session : ℕ) (st : Statement) (reply : Reply) (q : Plain) → session < 17 → IsPlain p → IsTrue (is_spelled st) → Keeps n p → MayAnswer p session st reply q → Keeps (noted n session st reply p.next_id q.next_id) q
answer_noted n p session st reply q low plain spelled keeps (Steps r s) =
    subst (λ (x : Reply). Keeps (noted n session st x p.next_id q.next_id) q) (sym r)
    (subst (λ (x : Plain). Keeps (noted n session st (step p session st).reply p.next_id x.next_id) x) (sym s) (note_keeps n p session st low plain spelled keeps))
answer_noted n p session st reply q low plain spelled keeps (LacksMemory m r s) =
    subst (λ (x : Reply). Keeps (noted n session st x p.next_id q.next_id) q) (sym r)
    (subst (λ (m : Noted). Keeps m q) (sym (noted_refused n session st refusals.Memory p.next_id q.next_id)) (subst (Keeps n) (sym s) keeps))

-- ---- at an opening

own_none : (count session : ℕ) → own_at (replicate count 0) session ≡ next_after 0 (own_ops (open_at (replicate count None) session))
own_none zero session = refl
own_none (suc count) zero = refl
own_none (suc count) (suc session) = own_none count session

-- nobody has a transaction
pub opened_noted : (o : Opening) (j : Journal) (limit : ℕ) → Keeps (nobody (current j).next) (opened_store o j limit)
opened_noted o j limit = record { seats = refl; next = refl; own = λ session low. own_none 17 session }
