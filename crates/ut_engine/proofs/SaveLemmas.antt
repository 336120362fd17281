-- What the plain store answers to a statement of the savepoint, and when it refuses one.
use Rattle.std.proofs.Common.{◌≡◌, inr, ℕ, Bool, true, false, Option, None, Some, is_some, refl, sym, ◌∙◌, ap, IsTrue}
use Rattle.std.specs.Option.{option_map}
use Rattle.ut_plain.specs.declared.stage.PendingMerge.{PendingMerge}
use Rattle.ut_plain.specs.declared.statement.Statement.{Statement}
use Rattle.ut_plain.specs.declared.statement.Statement.TheVariants as statements
use Rattle.ut_plain.specs.declared.reply.Reply.TheVariants as replies
use Rattle.ut_plain.specs.declared.reply.Refusal.{Refusal}
use Rattle.ut_plain.specs.declared.reply.Refusal.TheVariants as refusals
use Rattle.ut_plain.specs.declared.reply.Why.{Why}
use Rattle.ut_plain.specs.Limits.{has_room}
use Rattle.ut_plain.specs.Plain.{Plain, Phase, Idle, Writing, Sealed}
use Rattle.ut_plain.specs.Refusals.{is_save, state_why, merge_why, save_why, unless, or_else, refusal}
use Rattle.ut_plain.specs.Step.{step, step_by, effect_of, save_written, save_sealed, save_flipped, writes_savepoint, MayAnswer, Steps, MayFault}
use Rattle.ut_plain.specs.View as views

passes_state : (is_open : Bool) (st : Statement) → IsTrue (is_save st) → state_why is_open st ≡ None
passes_state true statements.SaveBegin is = refl
passes_state true (statements.SaveStep n) is = refl
passes_state true statements.SaveSeal is = refl
passes_state true statements.SaveFlip is = refl
passes_state true statements.SaveDrop is = refl
passes_state false statements.SaveBegin is = refl
passes_state false (statements.SaveStep n) is = refl
passes_state false statements.SaveSeal is = refl
passes_state false statements.SaveFlip is = refl
passes_state false statements.SaveDrop is = refl
passes_state is_open _ is = absurd cc

passes_merge : (pending : Option PendingMerge) (st : Statement) → IsTrue (is_save st) → merge_why pending st ≡ None
passes_merge None statements.SaveBegin is = refl
passes_merge None (statements.SaveStep n) is = refl
passes_merge None statements.SaveSeal is = refl
passes_merge None statements.SaveFlip is = refl
passes_merge None statements.SaveDrop is = refl
passes_merge (Some m) statements.SaveBegin is = refl
passes_merge (Some m) (statements.SaveStep n) is = refl
passes_merge (Some m) statements.SaveSeal is = refl
passes_merge (Some m) statements.SaveFlip is = refl
passes_merge (Some m) statements.SaveDrop is = refl
passes_merge pending _ is = absurd cc

-- the refusals that are left: of the savepoint's phase, and of the limits
abbrev left_why : views.View → Statement → Option Refusal
left_why v st = or_else (option_map refusals.State (save_why v.phase st)) (or_else (unless (has_room v st) refusals.Full) None)

abbrev all_why : views.View → Statement → Option Why → Option Why → Option Refusal
all_why v st state merge = or_else (option_map refusals.State state) (or_else (option_map refusals.State merge) (left_why v st))

refusal-save : (v : views.View) (st : Statement) → IsTrue (is_save st) → refusal v st ≡ left_why v st
refusal-save v statements.SaveBegin is = λ i. all_why v statements.SaveBegin (passes_state (is_some v.own) statements.SaveBegin is i) (passes_merge v.pending statements.SaveBegin is i)
refusal-save v (statements.SaveStep n) is = λ i. all_why v (statements.SaveStep n) (passes_state (is_some v.own) (statements.SaveStep n) is i) (passes_merge v.pending (statements.SaveStep n) is i)
refusal-save v statements.SaveSeal is = λ i. all_why v statements.SaveSeal (passes_state (is_some v.own) statements.SaveSeal is i) (passes_merge v.pending statements.SaveSeal is i)
refusal-save v statements.SaveFlip is = λ i. all_why v statements.SaveFlip (passes_state (is_some v.own) statements.SaveFlip is i) (passes_merge v.pending statements.SaveFlip is i)
refusal-save v statements.SaveDrop is = λ i. all_why v statements.SaveDrop (passes_state (is_some v.own) statements.SaveDrop is i) (passes_merge v.pending statements.SaveDrop is i)
refusal-save v _ is = absurd cc

module _ (p : Plain) (session : ℕ) (st : Statement) (save : IsTrue (is_save st)) where
  abbrev v : views.View
  v = views.view p session

  refused : (why : Refusal) → left_why v st ≡ Some why → MayAnswer p session st (replies.Refused why) p
  refused why is =
      let all : refusal v st ≡ Some why = refusal-save v st save ∙ is in
      Steps (sym (ap (λ w. (step_by w p session st).reply) all)) (sym (ap (λ w. (step_by w p session st).plain) all))

  pub refused_by_phase : (why : Why) → save_why p.phase st ≡ Some why → MayAnswer p session st (replies.Refused (refusals.State why)) p
  refused_by_phase why is = refused (refusals.State why) (ap (λ (o : Option Why). or_else (option_map refusals.State o) (or_else (unless (has_room v st) refusals.Full) None)) is)

  pub refused_full : save_why p.phase st ≡ None → has_room v st ≡ false → MayAnswer p session st (replies.Refused refusals.Full) p
  refused_full is full = refused refusals.Full (λ i. or_else (option_map refusals.State (is i)) (or_else (unless (full i) refusals.Full) None))

  pub passes : save_why p.phase st ≡ None → has_room v st ≡ true → refusal v st ≡ None
  passes is room = refusal-save v st save ∙ (λ i. or_else (option_map refusals.State (is i)) (or_else (unless (room i) refusals.Full) None))

  pub carried_out : save_why p.phase st ≡ None → has_room v st ≡ true → step p session st ≡ effect_of p session st
  carried_out is room = ap (λ w. step_by w p session st) (passes is room)

  pub may_fault : save_why p.phase st ≡ None → has_room v st ≡ true → IsTrue (writes_savepoint st) → MayFault p session st
  may_fault is room writes = record { passes = passes is room; writes = inr writes }

-- ---- no entry is appended

written_journal : (p : Plain) (n : ℕ) (phase : Phase) → (save_written p n phase).plain.journal ≡ p.journal
written_journal p n Idle = refl
written_journal p n (Writing captured done pages image) = refl
written_journal p n (Sealed captured pages image) = refl

sealed_journal : (p : Plain) (phase : Phase) → (save_sealed p phase).plain.journal ≡ p.journal
sealed_journal p Idle = refl
sealed_journal p (Writing captured done pages image) = refl
sealed_journal p (Sealed captured pages image) = refl

flipped_journal : (p : Plain) (phase : Phase) → (save_flipped p phase).plain.journal ≡ p.journal
flipped_journal p Idle = refl
flipped_journal p (Writing captured done pages image) = refl
flipped_journal p (Sealed captured pages image) = refl

by_journal : (why : Option Refusal) (p : Plain) (session : ℕ) (st : Statement) → IsTrue (is_save st) → (step_by why p session st).plain.journal ≡ p.journal
by_journal (Some why) p session st save = refl
by_journal None p session statements.SaveBegin save = refl
by_journal None p session (statements.SaveStep n) save = written_journal p n p.phase
by_journal None p session statements.SaveSeal save = sealed_journal p p.phase
by_journal None p session statements.SaveFlip save = flipped_journal p p.phase
by_journal None p session statements.SaveDrop save = refl
by_journal None p session _ save = absurd cc

pub step_journal : (p : Plain) (session : ℕ) (st : Statement) → IsTrue (is_save st) → (step p session st).plain.journal ≡ p.journal
step_journal p session st save = by_journal (refusal (views.view p session) st) p session st save
