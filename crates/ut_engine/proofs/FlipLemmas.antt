-- A savepoint's root is selected, or the savepoint is given up: what the plain store answers, and what the store then is.
use Rattle.std.proofs.Common.{◌≡◌, inl, inr, ℕ, ◌≤◌, true, false, Option, None, Some, refl, sym, ◌∙◌, ap, subst, arith}
use Rattle.ut_outside.specs.Disk.{Image, View, IsTold}
use Rattle.ut_outside.specs.Faults.{Rose}
use Rattle.ut_outside.specs.Run.{LeavesOnly}
use Rattle.ut_outside.proofs.RunLemmas.{started}
use Rattle.ut_plain.specs.declared.statement.Statement.TheVariants as statements
use Rattle.ut_plain.specs.declared.reply.Reply.{Reply}
use Rattle.ut_plain.specs.declared.reply.Reply.TheVariants as replies
use Rattle.ut_plain.specs.Journal.{journal_len}
use Rattle.ut_plain.specs.Plain.{Plain, Phase, Idle, Sealed}
use Rattle.ut_plain.specs.Reached.{IsPlain}
use Rattle.ut_plain.specs.Refusals.{save_why}
use Rattle.ut_plain.specs.Step.{Stepped, step, save_flipped, Steps}
use Rattle.ut_plain.proofs.SaveLaws.{save_flipped_is, save_dropped_is}
use Rattle.ut_pages.specs.Layout.{other}
use Rattle.ut_durable.specs.Calls.{FilesHeld, MayFlip}
use Rattle.ut_durable.specs.Files.{HasSelected}
use Rattle.ut_durable.specs.Journals.{HoldsPrefix}
use Rattle.ut_durable.specs.Saving.{Saving, IsStored}
use Rattle.ut_durable.proofs.MomentLemmas.{flip_leaves}
use Rattle.ut_durable.proofs.RestLemmas.{rests_all}
use Rattle.ut_durable.proofs.SavingLemmas.{flip_is_stored}
use Rattle.ut_engine.specs.Logged.{Logged}
use Rattle.ut_engine.specs.Runs.{Runs, IsEven}
use Rattle.ut_engine.specs.Saves.{MaySelect, SelectsRoot}
use Rattle.ut_engine.specs.Serves.{IsAnswered, Selects, Serves}
use Rattle.ut_engine.proofs.PhaseLemmas.{sealed_now, in_phase, runs_in, runs_on}
use Rattle.ut_engine.proofs.SaveLemmas.{carried_out, may_fault}
use Rattle.ut_engine.proofs.StoredLemmas.{two}
use Rattle.ut_engine.proofs.UnchangedLemmas.{selects_none}
use Rattle.ut_engine.proofs.WriteLemmas.{lost_save}

module _ (old : Logged) (before : View) (p : Plain) (runs : Runs old before p) (none : save_why p.phase statements.SaveFlip ≡ None) where
  abbrev pub may_select : MaySelect old before
  may_select =
      let is = sealed_now p.journal old.files runs.root before old.saving p.phase runs.stored.under_way none in
      record {
        saving = is.0;
        under_way = is.1;
        journal = p.journal;
        selected = runs.root;
        directory = runs.directory;
        captured = is.2;
        pages = is.3;
        image = is.4;
        stored = subst (λ (o : Option Saving). IsStored p.journal old.files runs.root runs.directory o (Sealed is.2 is.3 is.4) before) is.1
            (subst (λ (phase : Phase). IsStored p.journal old.files runs.root runs.directory old.saving phase before) is.5 runs.stored);
      }

  flip_run : (after : View) → ((s : Saving) → old.saving ≡ Some s → MayFlip s.reached old.files before after) → IsTold before → LeavesOnly before after (HoldsPrefix p.journal (journal_len p.journal))
  flip_run after may told =
      let m = may_select in
      flip_leaves (two before after) p.journal old.files runs.root runs.directory m.saving m.captured m.pages m.image false true (may m.saving m.under_way) m.stored told

  module _ (session : ℕ) (new : Logged) (after : View) (entries : ℕ) (selects : (s : Saving) → old.saving ≡ Some s → SelectsRoot s old before entries new after) where
    stored_after : IsStored p.journal new.files may_select.saving.root may_select.image None Idle after
    stored_after =
        let m = may_select in
        flip_is_stored (two before after) p.journal old.files new.files runs.root runs.directory m.saving m.captured m.pages m.image false true (selects m.saving m.under_way).flips m.stored

    flipped_answer : ((s : Saving) → old.saving ≡ Some s → MayFlip s.reached old.files before after) → IsAnswered p before session statements.SaveFlip (replies.Root entries) new after
    flipped_answer may =
        let is = sealed_now p.journal old.files runs.root before old.saving p.phase runs.stored.under_way none in
        let m = may_select in
        let did = selects m.saving m.under_way in
        let under = m.stored.under_way in
        let files : FilesHeld = record old.files { slot = other old.files.slot; reached = m.saving.reached } in
        let stored = subst (λ (f : FilesHeld). IsStored p.journal f m.saving.root m.image None Idle after) (ap (λ (e : Logged). e.files) did.same) stored_after in
        let step_is : step p session statements.SaveFlip ≡ save_flipped p (Sealed m.captured m.pages m.image) = carried_out p session statements.SaveFlip refl none refl ∙ ap (save_flipped p) is.5 in
        let plain : IsPlain (in_phase p Idle m.pages) = subst (λ (x : Phase). IsPlain (save_flipped p x).plain) is.5 (save_flipped_is p runs.stands.plain) in
        let even = subst (λ (o : Option Saving). IsEven o) m.under_way runs.even in
        let on = runs_in old before after p runs files None m.saving.root m.image Idle m.pages plain stored tt runs.log runs.short (under.pages ∙ sym even) in
        record {
          plain = in_phase p Idle m.pages;
          may = Steps (ap replies.Root (did.entries_of ∙ sym under.captured) ∙ sym (ap (λ (x : Stepped). x.reply) step_is)) (sym (ap (λ (x : Stepped). x.plain) step_is));
          runs = subst (λ (e : Logged). Runs e after (in_phase p Idle m.pages)) (sym did.same) on;
          sound = λ fault. let no : replies.Root entries ≡ replies.DiskFault = fault in cc;
          any_moment = flip_run after may;
        }

    flipped_selects : Selects p.phase (replies.Root entries) new after
    flipped_selects =
        let is = sealed_now p.journal old.files runs.root before old.saving p.phase runs.stored.under_way none in
        let m = may_select in
        let under = m.stored.under_way in
        subst (λ (x : Phase). Selects x (replies.Root entries) new after) (sym is.5) (
          (selects m.saving m.under_way).entries_of ∙ sym under.captured,
          λ told c left. let rests = stored_after.rests told c left in (m.saving.root, sym under.captured, record { stands = rests.stands; image = rests.image }),
        )

pub serves_flipped : (old new : Logged) (before after : View) (session entries : ℕ) → ((p : Plain) → Runs old before p → save_why p.phase statements.SaveFlip ≡ None) → ((s : Saving) → old.saving ≡ Some s → SelectsRoot s old before entries new after)
    → ((s : Saving) → old.saving ≡ Some s → MayFlip s.reached old.files before after) → after.told ≡ before.told → after.faults ≡ before.faults → Serves old before session statements.SaveFlip (replies.Root entries) new after
serves_flipped old new before after session entries none selects may told same = record {
  each = λ p runs. inl (flipped_answer old before p runs (none p runs) session new after entries selects may);
  keeps = λ p runs not_flip. absurd (not_flip refl);
  selects = λ p runs flip. flipped_selects old before p runs (none p runs) session new after entries selects;
  told = told;
  later = omega (arith, same);
  cause = λ fault. let no : replies.Root entries ≡ replies.DiskFault = fault in absurd (root_sound entries no);
  still = λ _. same;
}
  where
    root_sound : (n : ℕ) → replies.Root n ≡ replies.DiskFault → ⊥
    root_sound n is = cc

pub serves_unflipped : (old new : Logged) (before after : View) (session : ℕ) (reply : Reply) → ((p : Plain) → Runs old before p → save_why p.phase statements.SaveFlip ≡ None) → ((s : Saving) → old.saving ≡ Some s → MayFlip s.reached old.files before after)
    → reply ≡ replies.DiskFault → new.down ≡ true → new.store ≡ old.store → after.told ≡ before.told → before.faults ≤ after.faults → Rose before.faults after.faults → Serves old before session statements.SaveFlip reply new after
serves_unflipped old new before after session reply none may fault down kept told later rose = subst (λ (r : Reply). Serves old before session statements.SaveFlip r new after) (sym fault) (record {
  each = λ p runs. inr (lost_save old new before after session statements.SaveFlip p refl (may_fault p session statements.SaveFlip refl (none p runs) refl refl) runs.stands down kept (flip_run old before p runs (none p runs) after may));
  keeps = λ p runs not_flip. absurd (not_flip refl);
  selects = λ p runs flip. selects_none p.phase replies.DiskFault new after (λ n is. no_root n is);
  told = told;
  later = later;
  cause = λ _. rose;
  still = λ sound. absurd (sound refl);
})
  where
    no_root : (n : ℕ) → replies.DiskFault ≡ replies.Root n → ⊥
    no_root n is = cc

-- ---- it is given up

pub serves_dropped : (old : Logged) (disk : View) (session : ℕ) → ((c : Image) → disk.crash_states_since disk.moment c → disk.crash_states c) → ((p : Plain) → Runs old disk p → save_why p.phase statements.SaveDrop ≡ None)
    → Serves old disk session statements.SaveDrop replies.Done (record old { saving = None }) disk
serves_dropped old disk session only none = record {
  each = λ p runs.
      let step_is = carried_out p session statements.SaveDrop refl (none p runs) refl in
      inl (record {
        plain = in_phase p Idle p.root_pages;
        may = Steps (sym (ap (λ (x : Stepped). x.reply) step_is)) (sym (ap (λ (x : Stepped). x.plain) step_is));
        runs = runs_on old disk disk p runs old.files None Idle (save_dropped_is p runs.stands.plain) (record { image = runs.stored.image; rests = runs.stored.rests; under_way = tt }) tt runs.log runs.short refl;
        sound = λ fault. done_sound fault;
        any_moment = λ told. started disk (HoldsPrefix p.journal (journal_len p.journal))
            (λ c left. rests_all p.journal old.files.slot old.files.reached runs.root runs.directory old.files.log c runs.stored.image (runs.stored.rests told c (only c left)));
      });
  keeps = λ p runs other told. started disk (HasSelected old.files.slot old.files.reached runs.root runs.directory)
      (λ c left. let rests = runs.stored.rests told c (only c left) in record { stands = rests.stands; image = rests.image });
  selects = λ p runs flip. let no : statements.SaveDrop ≡ statements.SaveFlip = flip in absurd (drop_flip no);
  told = refl;
  later = omega arith;
  cause = λ fault. absurd (done_sound fault);
  still = λ _. refl;
}
  where
    done_sound : replies.Done ≡ replies.DiskFault → ⊥
    done_sound is = cc

    drop_flip : statements.SaveDrop ≡ statements.SaveFlip → ⊥
    drop_flip is = cc
