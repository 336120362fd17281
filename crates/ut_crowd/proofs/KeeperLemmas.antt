-- What the turns of keepers come to.
use Rattle.std.proofs.Common.{inl, inr, ℕ, ◌+◌, ◌≡◌, ◌<◌, ◌⊎◌, Bool, true, false, cond, ◌&&◌, ◌||◌, not, List, [], ◌∷◌, ◌++◌, length, Option, None, Some, Err, refl, ap, ◌∙◌, sym, subst}
use Rattle.std.specs.Prelude.{IsTrue, is_some}
use Rattle.std.specs.Option.{unwrap_or}
use Rattle.ut_outside.specs.Disk.{View}
use Rattle.ut_plain.specs.declared.stage.PendingMerge.{PendingMerge}
use Rattle.ut_plain.specs.declared.stage.Progress.{Progress}
use Rattle.ut_plain.specs.declared.stage.Progress.TheVariants as steps
use Rattle.ut_plain.specs.declared.statement.Statement.{Statement}
use Rattle.ut_plain.specs.declared.statement.Statement.TheVariants as statements
use Rattle.ut_plain.specs.declared.reply.Reply.{Reply}
use Rattle.ut_plain.specs.declared.reply.Reply.TheVariants as replies
use Rattle.ut_plain.specs.Journal.{current}
use Rattle.ut_plain.specs.Plain.{Plain, Phase, Idle, Writing, Sealed}
use Rattle.ut_durable.specs.Saving.{Saving, IsSaving}
use Rattle.ut_merge.specs.Jobs.{JobValue}
use Rattle.ut_gate.specs.Turns.{KeepsJob}
use Rattle.ut_store.specs.Held.{Held}
use Rattle.ut_store.specs.Jobs.{pending_job}
use Rattle.ut_store.specs.Stands.{StandsFor}
use Rattle.ut_engine.specs.declared.error.BeginError.{BeginError}
use Rattle.ut_engine.specs.declared.error.BeginError.TheVariants as errors
use Rattle.ut_engine.specs.Logged.{Logged}
use Rattle.ut_engine.specs.Merging.{EndsMerge, begin_reply, is_fault}
use Rattle.ut_engine.specs.Runs.{Runs}
use Rattle.ut_engine.specs.Savepoints.{progress_of}
use Rattle.ut_engine.specs.Tables.{name_at}
use Rattle.ut_crew.specs.declared.role.Kept.{Kept}
use Rattle.ut_crew.specs.declared.role.Kept.TheVariants as kepts
use Rattle.ut_crowd.specs.declared.book.Asked.TheVariants.{Store}
use Rattle.ut_crowd.specs.declared.book.Begun.{Begun}
use Rattle.ut_crowd.specs.declared.book.Turn.{Turn}
use Rattle.ut_crowd.specs.declared.merger.Ripe.{Ripe}
use Rattle.ut_crowd.specs.declared.merger.Ripe.TheVariants.{First, Second}
use Rattle.ut_crowd.specs.Asking.{StoreAsks, Merges, Ends, Saves, first_full, second_full, kind_of_merge, merge_of, merge_due, table_at, progress_in, piece_next, save_waits, waits, is_refusal}
use Rattle.ut_crowd.specs.Keepers.{kept_after, woken, ended, HasAsked, AsksOnce, AsksDue, BringsJob, KeepsUp, EndsJob, IsShared, IsMergeDue, IsSaveDue, IsWaiting, unless_waiting}
use Rattle.ut_crowd.specs.Queues.{left_of, IsOver}
use Rattle.ut_crowd.specs.Ripe.{ripe_of}
use Rattle.ut_crowd.specs.Saving.{due_piece}
use Rattle.ut_crowd.specs.Standing.{IsHeld}
use Rattle.ut_crowd.specs.Waking.{calls_saver, is_begin}

-- ---- a statement that was answered

pub asks_once : (st : Statement) (stopped down : Bool) (before after : List Turn) (t : Turn) (reply : Reply) → after ≡ before ++ t ∷ [] → t.session ≡ Some 0 → t.asked ≡ Store st → t.reply ≡ reply → stopped ≡ false → AsksOnce st false stopped down before after (kept_after reply down)
asks_once st stopped down before after t reply more who asked says going = by down (is_refusal reply) refl refl
  where
    has : HasAsked st before after
    has = record { turn = t; more = more; who = who; asked = asked }

    by : (d r : Bool) → down ≡ d → is_refusal reply ≡ r → AsksOnce st false stopped down before after (cond (d || r) kepts.Over kepts.Did)
    by true r e f = inr (inl e)
    by false true e f = inr (inr (has, ap is_refusal says ∙ f))
    by false false e f = (refl, (has, ap is_refusal says ∙ f, going, e))

in_place : {A B C : Type 0} → C → A × B → C × B
in_place c h = (c, h.1)

woken_once : (st : Statement) (stopped down : Bool) (before after : List Turn) (w : Bool) (kept : Kept) → AsksOnce st false stopped down before after kept → AsksOnce st w stopped down before after (woken w kept)
woken_once st stopped down before after true kepts.Did h = in_place refl h
woken_once st stopped down before after false kepts.Did h = h
woken_once st stopped down before after true kepts.Due h = let no : false ≡ true = h.0 in cc
woken_once st stopped down before after false kepts.Due h = h
woken_once st stopped down before after true kepts.Idle h = h
woken_once st stopped down before after false kepts.Idle h = h
woken_once st stopped down before after true kepts.Over h = h
woken_once st stopped down before after false kepts.Over h = h

-- ---- a hall that isn't over

no_both : {A : Type 0} (b : Bool) → b ≡ true → b ≡ false → A
no_both true h k = cc
no_both false h k = cc

-- ---- a keeper's turn

pub keeps_by : (over : Type 0) (due : Option Statement → Type 0) (brings : Statement → Type 0) (waited was stopped down : Bool) (before after : List Turn) (kept : Kept) → (over → ⊥) → AsksDue due brings waited stopped down before after kept → KeepsUp over due brings waited was stopped down before after kept
keeps_by over due brings waited was stopped down before after kepts.Did on h = (on, h)
keeps_by over due brings waited was stopped down before after kepts.Due on h = (on, h)
keeps_by over due brings waited was stopped down before after kepts.Idle on h = absurd h.2
keeps_by over due brings waited was stopped down before after kepts.Over on h = inr (on, h)

-- a turn of the saver's, which wakes the merger where that waited
pub keeps_woken : (over : Type 0) (due : Option Statement → Type 0) (was stopped down : Bool) (before after : List Turn) (w : Bool) (kept : Kept) (st : Statement) → (over → ⊥) → due (Some st) → AsksOnce st false stopped down before after kept
    → KeepsUp over due (λ st. Unit {0}) w was stopped down before after (woken w kept)
keeps_woken over due was stopped down before after w kept st on is h = keeps_by over due (λ st. Unit {0}) w was stopped down before after (woken w kept) on (st, is, woken_once st stopped down before after w kept h, λ goes. tt)

pub shared_once : (st : Statement) (waited stopped stopped' down : Bool) (before after : List Turn) (kept kept' : Kept) → IsShared kept stopped kept' stopped' → AsksOnce st waited stopped down before after kept → AsksOnce st waited stopped' down before after kept'
shared_once st waited stopped stopped' down before after kept kept' (inl s) h =
    subst (λ (k : Kept). AsksOnce st waited stopped' down before after k) (sym s.0) (subst (λ (b : Bool). AsksOnce st waited b down before after kept) (sym s.1) h)
shared_once st waited stopped stopped' down before after kept kept' (inr s) h = subst (λ (k : Kept). AsksOnce st waited stopped' down before after k) (sym s.0) (inl s.1)

-- the end of a merge that was pending is no refusal
pub end_taken : (pending : Option PendingMerge) (reply : Reply) → EndsMerge pending reply → is_refusal reply ≡ false
end_taken None reply (inl e) = cc
end_taken (Some m) reply (inl e) = let same : reply ≡ replies.Merge m.number = cc in ap is_refusal same
end_taken pending reply (inr e) = ap is_refusal e

-- the turn behind which a job is gone
pub ends_job : (stopped down : Bool) (before after : List Turn) (t : Turn) (reply : Reply) → after ≡ before ++ t ∷ [] → t.session ≡ Some 0 → t.asked ≡ Store statements.MergeEnd → t.reply ≡ reply → is_refusal reply ≡ false → stopped ≡ false
    → EndsJob stopped down before after None (ended down)
ends_job stopped true before after t reply more who asked says taken going = inr refl
ends_job stopped false before after t reply more who asked says taken going = (record { turn = t; more = more; who = who; asked = asked }, ap is_refusal says ∙ taken, refl, going, refl)

pub begin_over : (e : BeginError) (down : Bool) → down ≡ is_fault (Err e) → IsTrue (is_refusal (begin_reply (Err e))) ⊎ IsTrue down
begin_over errors.Name down is = inl refl
begin_over (errors.Busy n) down is = inl refl
begin_over errors.Full down is = inl refl
begin_over errors.Memory down is = inl refl
begin_over errors.Disk down is = inr is

-- ---- what is due to the merger

unless_l1 : (w : Bool) (name : List ℕ) (n : ℕ) → unless_waiting w (Some (statements.MergeL1 name n)) ≡ Some (statements.MergeL1 name n)
unless_l1 true name n = refl
unless_l1 false name n = refl

pub none_is : {A : Type 0} (o : Option A) → is_some o ≡ false → o ≡ None
none_is None h = refl
none_is (Some x) h = cc

module _ (l1 : ℕ) (store : Logged) (disk : View) where
  module _ (place : ℕ) (name : List ℕ) (named : (p : Plain) → StandsFor store.store p → name_at (current p.journal).tables place ≡ Some name) where
    table_is : (p : Plain) → Runs store disk p → table_at p place ≡ name
    table_is p runs = ap (λ (o : Option (List ℕ)). unwrap_or o []) (named p runs.stands)

    pub l1_due : ((p : Plain) → Runs store disk p → merge_due l1 p ≡ Some (statements.MergeL1 (table_at p place) l1)) → (p : Plain) → Runs store disk p → merge_due l1 p ≡ Some (statements.MergeL1 name l1)
    l1_due due p runs = due p runs ∙ ap (λ (t : List ℕ). Some (statements.MergeL1 t l1)) (table_is p runs)

    pub l1_is_due : (w : Bool) → ((p : Plain) → Runs store disk p → merge_due l1 p ≡ Some (statements.MergeL1 (table_at p place) l1)) → IsMergeDue l1 w store disk (Some (statements.MergeL1 name l1))
    l1_is_due w due p runs = ap (unless_waiting w) (l1_due due p runs) ∙ unless_l1 w name l1

    pub begin_due : (n : ℕ) → ((p : Plain) → Runs store disk p → merge_due l1 p ≡ Some (statements.MergeBegin (table_at p place) (kind_of_merge n))) → (p : Plain) → Runs store disk p → merge_due l1 p ≡ Some (statements.MergeBegin name (kind_of_merge n))
    begin_due n due p runs = due p runs ∙ ap (λ (t : List ℕ). Some (statements.MergeBegin t (kind_of_merge n))) (table_is p runs)

    pub begin_is_due : (n : ℕ) (w : Bool) → w ≡ false → ((p : Plain) → Runs store disk p → merge_due l1 p ≡ Some (statements.MergeBegin (table_at p place) (kind_of_merge n))) → IsMergeDue l1 w store disk (Some (statements.MergeBegin name (kind_of_merge n)))
    begin_is_due n w now due p runs =
        ap (unless_waiting w) (begin_due n due p runs) ∙ ap (λ (b : Bool). unless_waiting b (Some (statements.MergeBegin name (kind_of_merge n)))) now

    -- a begin that was due found no room
    pub begin_lost : (n : ℕ) (w down : Bool) (before after : List Turn) → w ≡ false → ((p : Plain) → Runs store disk p → merge_due l1 p ≡ Some (statements.MergeBegin (table_at p place) (kind_of_merge n)))
        → AsksDue (IsMergeDue l1 w store disk) (BringsJob None) false true down before after kepts.Over
    begin_lost n w down before after now due = (statements.MergeBegin name (kind_of_merge n), begin_is_due n w now due, inl refl, λ goes. absurd (goes refl))

  pub may_merge : (last : Begun) (st : Statement) → ((p : Plain) → Runs store disk p → merge_due l1 p ≡ Some st) → (p : Plain) → Runs store disk p → StoreAsks l1 last p st
  may_merge last st due p runs = Merges (due p runs)

-- ---- the job

-- the store with this merge pending
abbrev with_pending : Held → Option PendingMerge → Held
with_pending e pending = record e { counts = record e.counts { pending = pending } }

pub jobless : (job : Option JobValue) (store : Logged) → IsHeld job store → is_some store.store.counts.pending ≡ false → job ≡ None
jobless None store held free = refl
jobless (Some j) store held free =
    let is : pending_job store.store ≡ Some j = held in
    let none : store.store.counts.pending ≡ None = none_is store.store.counts.pending free in
    let no : pending_job store.store ≡ None = ap (λ (o : Option PendingMerge). pending_job (with_pending store.store o)) none in cc

-- a job that is handed out where there was none
pub hands_out : (old new given : Option JobValue) → old ≡ None → given ≡ new → KeepsJob old new None given
hands_out old new given none same = subst (λ (o : Option JobValue). KeepsJob o new None given) (sym none) (tt, same)

pub pending_there : (e : Held) (job : JobValue) → pending_job e ≡ Some job → is_some e.counts.pending ≡ true
pending_there e job h = by e.counts.pending h
  where
    by : (o : Option PendingMerge) → pending_job (with_pending e o) ≡ Some job → is_some o ≡ true
    by None h = cc
    by (Some m) h = refl

pub may_end : (l1 : ℕ) (last : Begun) (store : Logged) (disk : View) (job : JobValue) → pending_job store.store ≡ Some job → (p : Plain) → Runs store disk p → StoreAsks l1 last p statements.MergeEnd
may_end l1 last store disk job h p runs = Ends (ap is_some (sym runs.stands.counts.pending) ∙ pending_there store.store job h) refl

-- ---- what is due to the saver

progress_is : (e : Logged) (disk : View) (p : Plain) → Runs e disk p → progress_in p.phase ≡ progress_of e.saving
progress_is e disk p runs = by e.saving p.phase runs.stored.under_way
  where
    by : (saving : Option Saving) (phase : Phase) → IsSaving p.journal e.files runs.root disk saving phase → progress_in phase ≡ progress_of saving
    by None Idle is = refl
    by None (Writing b n q d) is = absurd is
    by None (Sealed b q d) is = absurd is
    by (Some s) Idle is = absurd is
    by (Some s) (Writing b n q d) is =
        ap (λ (m : ℕ). steps.Writing m q) is.done ∙ ap (λ (m : ℕ). steps.Writing s.done m) is.pages
        ∙ sym (ap (λ (x : Bool). cond x (steps.Sealed (length s.planned)) (steps.Writing s.done (length s.planned))) is.unsealed)
    by (Some s) (Sealed b q d) is =
        ap (λ (m : ℕ). steps.Sealed m) is.pages ∙ sym (ap (λ (x : Bool). cond x (steps.Sealed (length s.planned)) (steps.Writing s.done (length s.planned))) is.sealed)

module _ (last : Begun) (store : Logged) (disk : View) (piece : Option Statement) (is : piece ≡ due_piece (progress_of store.saving) store.store.counts.entries last.entries last.pages) where
  next_is : (p : Plain) → Runs store disk p → piece ≡ piece_next last p
  next_is p runs =
      is ∙ ap (λ (x : Progress). due_piece x store.store.counts.entries last.entries last.pages) (sym (progress_is store disk p runs))
      ∙ ap (λ (n : ℕ). due_piece (progress_in p.phase) n last.entries last.pages) runs.stands.counts.entries

  pub waits_is : (w : Bool) → w ≡ waits (is_some store.store.counts.pending) piece → IsWaiting last store disk w
  waits_is w e p runs =
      e ∙ ap (λ (o : Option PendingMerge). waits (is_some o) piece) runs.stands.counts.pending ∙ ap (waits (is_some p.pending)) (next_is p runs)

  -- whether a saver that sleeps would do something
  pub saver_called : (noted w : Bool) → w ≡ waits (is_some store.store.counts.pending) piece → (p : Plain) → Runs store disk p → calls_saver last noted p ≡ (is_begin piece && not (noted && w))
  saver_called noted w e p runs =
      ap (λ (x : Option Statement). is_begin x && not (noted && save_waits last p)) (sym (next_is p runs)) ∙ ap (λ (b : Bool). is_begin piece && not (noted && b)) (sym (waits_is w e p runs))

  pub save_none : (w : Bool) → w ≡ waits (is_some store.store.counts.pending) piece → w ≡ true → IsSaveDue last store disk None
  save_none w e f p runs = ap (λ (b : Bool). cond b None (piece_next last p)) (sym (waits_is w e p runs) ∙ f)

  pub save_next : (w : Bool) → w ≡ waits (is_some store.store.counts.pending) piece → w ≡ false → IsSaveDue last store disk piece
  save_next w e f p runs = ap (λ (b : Bool). cond b None (piece_next last p)) (sym (waits_is w e p runs) ∙ f) ∙ sym (next_is p runs)

  pub may_save : (l1 : ℕ) (st : Statement) (w : Bool) → w ≡ waits (is_some store.store.counts.pending) piece → w ≡ false → piece ≡ Some st → (p : Plain) → Runs store disk p → StoreAsks l1 last p st
  may_save l1 st w e f g p runs = Saves (save_next w e f p runs ∙ g)
