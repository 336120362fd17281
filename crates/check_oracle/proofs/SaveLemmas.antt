-- Savepoints: what an allowed statement of them does, and the image that is selected behind a step.
use Rattle.std.proofs.Common.{◌≡◌, ℕ, suc, ◌+◌, ◌*◌, ◌≤◌, length, nat_le, Bool, true, false, List, [], ◌∷◌, Option, None, Some, refl, sym, ap, ◌∙◌, subst, arith}
use Rattle.ut_value.specs.declared.entry.Op.{Op}
use Rattle.ut_value.specs.declared.entry.Entry.{Entry}
use Rattle.ut_plain.specs.declared.transaction.OpenTransaction.{OpenTransaction}
use Rattle.ut_plain.specs.declared.stage.PendingMerge.{PendingMerge}
use Rattle.ut_plain.specs.declared.statement.Statement.{Statement}
use Rattle.ut_plain.specs.declared.statement.Statement.TheVariants.{Create, Insert, Bulk, Ask, Update, Delete, Begin, Commit, Abort, MergeL1, MergeBegin, MergeEnd, SaveBegin, SaveStep, SaveSeal, SaveFlip, SaveDrop, Shape}
use Rattle.ut_plain.specs.declared.reply.Reply.{Reply}
use Rattle.ut_plain.specs.declared.reply.Reply.TheVariants as replies
use Rattle.ut_plain.specs.declared.reply.Refusal.{Refusal}
use Rattle.ut_plain.specs.declared.reply.Refusal.TheVariants as refusals
use Rattle.ut_plain.specs.declared.table.Table.{Table}
use Rattle.ut_plain.specs.State.{State}
use Rattle.ut_plain.specs.Stages.{Stages, stages_at}
use Rattle.ut_plain.specs.declared.stage.TableStages.{TableStages}
use Rattle.std.specs.List.{sum_by}
use Rattle.std.proofs.lemmas.List.Sums.{sum_by-cons}
use Rattle.ut_plain.proofs.StateLaws.{IsState-current}
use Rattle.ut_plain.specs.Capture.{capture}
use Rattle.ut_plain.specs.Journal.{Journal, journal_len, state_at, appended}
use Rattle.ut_plain.specs.Plain.{Plain, Phase, Idle, Writing, Sealed, open_at}
use Rattle.ut_plain.specs.View.{view}
use Rattle.ut_plain.specs.Made.{made}
use Rattle.ut_plain.specs.Reached.{IsPlain, IsUnderWay}
use Rattle.ut_plain.specs.Refusals.{unless, or_else, refusal}
use Rattle.ut_plain.specs.Step.{step, step_by, effect_of, with_made, committed, committed_by, merge_ended, save_begun, save_written, save_sealed, save_flipped, save_dropped}
use Rattle.ut_plain.proofs.JournalLaws.{journal_len-appended, state_at-appended}
use Rattle.check_rows.specs.declared.known.Known.{Known}
use Rattle.check_oracle.specs.Store.{Gives, Allowed, Selected, IsSelected, refuses, selected_behind}
use Rattle.check_oracle.proofs.StepLemmas.{gives_by, gives_effect, late_step}

-- ---- allowed statements

pub save_full : (p : Plain) (sight : Known) (session : ℕ) (room : Bool) (reply : Reply) (q : Plain) → Allowed p sight session SaveBegin → room ≡ nat_le (3 + (view p session).pages + p.root_pages) 4294967295 → room ≡ false → Gives (refuses p refusals.Full) reply q → Gives (step p session SaveBegin) reply q
save_full p sight session room reply q h is none g = gives_by p session SaveBegin (refuses p refusals.Full) reply q (late_step p sight session SaveBegin h ∙ ap (λ b. step_by (or_else (unless b refusals.Full) None) p session SaveBegin) (sym is ∙ none)) g

pub begin_gives : (p : Plain) (sight : Known) (session : ℕ) (room : Bool) (reply : Reply) (q : Plain) → Allowed p sight session SaveBegin → room ≡ nat_le (3 + (view p session).pages + p.root_pages) 4294967295 → room ≡ true → Gives (save_begun p) reply q → Gives (step p session SaveBegin) reply q
begin_gives p sight session room reply q h is some g = gives_effect p sight session SaveBegin reply q h (ap (λ b. or_else (unless b refusals.Full) None) (sym is ∙ some)) g

pub step_gives : (p : Plain) (sight : Known) (session n : ℕ) (reply : Reply) (q : Plain) → Allowed p sight session (SaveStep n) → Gives (save_written p n p.phase) reply q → Gives (step p session (SaveStep n)) reply q
step_gives p sight session n reply q h g = gives_effect p sight session (SaveStep n) reply q h refl g

pub seal_gives : (p : Plain) (sight : Known) (session : ℕ) (reply : Reply) (q : Plain) → Allowed p sight session SaveSeal → Gives (save_sealed p p.phase) reply q → Gives (step p session SaveSeal) reply q
seal_gives p sight session reply q h g = gives_effect p sight session SaveSeal reply q h refl g

pub flip_gives : (p : Plain) (sight : Known) (session : ℕ) (reply : Reply) (q : Plain) → Allowed p sight session SaveFlip → Gives (save_flipped p p.phase) reply q → Gives (step p session SaveFlip) reply q
flip_gives p sight session reply q h g = gives_effect p sight session SaveFlip reply q h refl g

pub drop_gives : (p : Plain) (sight : Known) (session : ℕ) (reply : Reply) (q : Plain) → Allowed p sight session SaveDrop → Gives (save_dropped p) reply q → Gives (step p session SaveDrop) reply q
drop_gives p sight session reply q h g = gives_effect p sight session SaveDrop reply q h refl g

-- what was worked out is what is captured
pub image_is : (s : State) (known tables : List Table) (image : Stages) (stages held : Stages) → known ≡ s.tables → tables ≡ known → stages ≡ held → image ≡ (capture s stages).stages → record { tables = tables; stages = image } ≡ capture s held
image_is s known tables image stages held k t h i =
    let stood = i ∙ ap (λ (ts : Stages). (capture s ts).stages) h in
    λ n. record { tables = (t ∙ k) n; stages = stood n }

-- ---- a step appends an entry, or none

data Follows (j k : Journal) : Type 0 where
  Same : k ≡ j → Follows j k
  More : (e : Entry) → k ≡ appended j e → Follows j k

made_follows : (p : Plain) (session : ℕ) (own : Option OpenTransaction) (os : List Op) → Follows p.journal (with_made p session own os).journal
made_follows p session None [] = Same refl
made_follows p session None (op ∷ os) = More _ refl
made_follows p session (Some t) os = Same refl

ops_follow : (p : Plain) (session : ℕ) (os : List Op) → Follows p.journal (committed_by p session os).plain.journal
ops_follow p session [] = Same refl
ops_follow p session (op ∷ os) = More _ refl

commit_follows : (p : Plain) (session : ℕ) (own : Option OpenTransaction) → Follows p.journal (committed p session own).plain.journal
commit_follows p session None = Same refl
commit_follows p session (Some t) = ops_follow p session t.ops

end_follows : (p : Plain) (pending : Option PendingMerge) → Follows p.journal (merge_ended p pending).plain.journal
end_follows p None = Same refl
end_follows p (Some m) = More _ refl

write_follows : (p : Plain) (n : ℕ) (phase : Phase) → Follows p.journal (save_written p n phase).plain.journal
write_follows p n Idle = Same refl
write_follows p n (Writing captured done pages image) = Same refl
write_follows p n (Sealed captured pages image) = Same refl

seal_follows : (p : Plain) (phase : Phase) → Follows p.journal (save_sealed p phase).plain.journal
seal_follows p Idle = Same refl
seal_follows p (Writing captured done pages image) = Same refl
seal_follows p (Sealed captured pages image) = Same refl

flip_follows : (p : Plain) (phase : Phase) → Follows p.journal (save_flipped p phase).plain.journal
flip_follows p Idle = Same refl
flip_follows p (Writing captured done pages image) = Same refl
flip_follows p (Sealed captured pages image) = Same refl

change_follows : (p : Plain) (session : ℕ) (st : Statement) → Follows p.journal (with_made p session (open_at p.sessions session) (made (view p session).tables (view p session).rows p.next_id st)).journal
change_follows p session st = made_follows p session (open_at p.sessions session) (made (view p session).tables (view p session).rows p.next_id st)

effect_follows : (p : Plain) (session : ℕ) (st : Statement) → Follows p.journal (effect_of p session st).plain.journal
effect_follows p session (Create name columns) = More _ refl
effect_follows p session (Insert name values) = change_follows p session (Insert name values)
effect_follows p session (Bulk name values) = change_follows p session (Bulk name values)
effect_follows p session (Update name column value preds) = change_follows p session (Update name column value preds)
effect_follows p session (Delete name preds) = change_follows p session (Delete name preds)
effect_follows p session (Ask query) = Same refl
effect_follows p session Begin = Same refl
effect_follows p session Commit = commit_follows p session (open_at p.sessions session)
effect_follows p session Abort = Same refl
effect_follows p session (MergeL1 name n) = Same refl
effect_follows p session (MergeBegin name kind) = More _ refl
effect_follows p session MergeEnd = end_follows p p.pending
effect_follows p session (Shape name) = Same refl
effect_follows p session SaveBegin = Same refl
effect_follows p session (SaveStep n) = write_follows p n p.phase
effect_follows p session SaveSeal = seal_follows p p.phase
effect_follows p session SaveFlip = flip_follows p p.phase
effect_follows p session SaveDrop = Same refl

step_follows : (p : Plain) (session : ℕ) (st : Statement) (o : Option Refusal) → Follows p.journal (step_by o p session st).plain.journal
step_follows p session st None = effect_follows p session st
step_follows p session st (Some why) = Same refl

-- ---- the image that is selected

-- it stays one of the first entries, whatever is appended
selected_later : (s : Selected) (p q : Plain) → Follows p.journal q.journal → IsSelected s p → IsSelected s q
selected_later s p q (Same e) h = record {
  since = let since = h.since in omega (arith, since, ap (λ (j : Journal). j.base.length) e);
  until = let until = h.until in omega (arith, until, ap journal_len e);
  tables = h.tables ∙ ap (λ (j : Journal). (state_at j s.length).tables) (sym e);
  captured = h.captured;
}
selected_later s p q (More e is) h = record {
  since = let since = h.since in omega (arith, since, ap (λ (j : Journal). j.base.length) is);
  until = let until = h.until in omega (arith, until, ap journal_len is, journal_len-appended p.journal e);
  tables = h.tables ∙ ap (λ (t : State). t.tables) (sym (state_at-appended p.journal e s.length h.until)) ∙ ap (λ (j : Journal). (state_at j s.length).tables) (sym is);
  captured = h.captured;
}

-- that of a sealed savepoint is one, too
selected_sealed : (p : Plain) (phase : Phase) (s : Selected) (reply : Reply) → IsPlain p → p.phase ≡ phase → IsSelected s p → IsSelected (selected_behind s phase reply) p
selected_sealed p Idle s reply h is i = i
selected_sealed p (Writing at done all image) s reply h is i = i
selected_sealed p (Sealed at all image) s reply h is i = by_reply reply
  where
    under : IsUnderWay p.journal (Sealed at all image)
    under = subst (IsUnderWay p.journal) is h.saving

    new : IsSelected (record { length = at; directory = image }) p
    new = record {
      since = under.since;
      until = under.until;
      tables = under.tables;
      captured = under.image;
    }

    by_reply : (reply : Reply) → IsSelected (selected_behind s (Sealed at all image) reply) p
    by_reply (replies.Root n) = new
    by_reply _ = i

pub selected_is : (p : Plain) (session : ℕ) (st : Statement) (s t : Selected) (reply : Reply) (q : Plain) → IsPlain p → IsSelected s p → t ≡ selected_behind s p.phase reply → q ≡ (step p session st).plain → IsSelected t q
selected_is p session st s t reply q h i is e =
    let new = selected_sealed p p.phase s reply h refl i in
    let later = selected_later (selected_behind s p.phase reply) p (step p session st).plain (step_follows p session st (refusal (view p session) st)) new in
    subst (λ (t : Selected). IsSelected t q) (sym is) (subst (IsSelected (selected_behind s p.phase reply)) (sym e) later)

-- ---- how many parts there are

parts_few : (stages : Stages) → ((n : ℕ) → length (stages_at stages n).parts ≤ 8) → sum_by (λ (t : TableStages). length t.parts) stages ≤ 8 * length stages
parts_few [] h = omega arith
parts_few (t ∷ ts) h = let one = h 0 in let rest = parts_few ts (λ n. h (suc n)) in omega (arith, one, rest, sum_by-cons (λ (t : TableStages). length t.parts) t ts)

pub few_parts : (p : Plain) → IsPlain p → sum_by (λ (t : TableStages). length t.parts) p.stages ≤ 2048
few_parts p h =
    let all = parts_few p.stages (λ n. (h.mains n).parts) in
    let state = IsState-current p.journal h.base h.journal in
    let few = state.few in
    let staged = h.staged in
    omega (arith, all, few, staged)
