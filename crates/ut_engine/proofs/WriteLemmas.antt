-- The pages of a savepoint are written, and its root: what the plain store answers, and what the store then is.
use Rattle.std.proofs.Common.{◌≡◌, inl, inr, ℕ, ◌+◌, ◌-◌, ◌≤◌, min, Bool, true, false, cond, length, Option, None, Some, refl, sym, ◌∙◌, ap, subst, arith, IsTrue}
use Rattle.std.specs.Option.{option_map}
use Rattle.ut_outside.specs.Disk.{View, IsTold}
use Rattle.ut_outside.specs.Faults.{Rose}
use Rattle.ut_outside.specs.Run.{LeavesOnly}
use Rattle.ut_plain.specs.declared.stage.Progress.TheVariants as steps
use Rattle.ut_plain.specs.declared.statement.Statement.{Statement}
use Rattle.ut_plain.specs.declared.statement.Statement.TheVariants as statements
use Rattle.ut_plain.specs.declared.reply.Reply.{Reply}
use Rattle.ut_plain.specs.declared.reply.Reply.TheVariants as replies
use Rattle.ut_plain.specs.Journal.{Journal, journal_len}
use Rattle.ut_plain.specs.Plain.{Plain, Phase, Writing, Sealed}
use Rattle.ut_plain.specs.Reached.{IsPlain}
use Rattle.ut_plain.specs.Refusals.{is_save, save_why}
use Rattle.ut_plain.specs.Step.{Stepped, step, save_written, save_sealed, Steps, MayFault}
use Rattle.ut_plain.proofs.SaveLaws.{save_written_is, save_sealed_is}
use Rattle.ut_durable.specs.Calls.{Stays}
use Rattle.ut_durable.specs.Journals.{HoldsPrefix}
use Rattle.ut_durable.specs.Moments.{Leaves}
use Rattle.ut_durable.specs.Saving.{Saving, IsStored}
use Rattle.ut_durable.proofs.MomentLemmas.{stay_leaves}
use Rattle.ut_durable.proofs.SavingLemmas.{seal_is_stored}
use Rattle.ut_store.specs.Held.{Held}
use Rattle.ut_store.specs.Stands.{StandsFor}
use Rattle.ut_engine.specs.Logged.{Logged}
use Rattle.ut_engine.specs.Runs.{Runs, IsEven}
use Rattle.ut_engine.specs.Savepoints.{progress_of, told_of}
use Rattle.ut_engine.specs.Saves.{more, pages_left, with_root, MayGoOn, Goes, Seals}
use Rattle.ut_engine.specs.Serves.{IsAnswered, IsLost, Serves}
use Rattle.ut_engine.proofs.DownLemmas.{saved_stands}
use Rattle.ut_engine.proofs.PhaseLemmas.{writing_now, all_written, in_phase, runs_on}
use Rattle.ut_engine.proofs.RunsLemmas.{to_prefix, to_root}
use Rattle.ut_engine.proofs.SaveLemmas.{carried_out, step_journal}
use Rattle.ut_engine.proofs.StoredLemmas.{two}

-- what is told isn't that the disk failed
pub told_sound : (saving : Option Saving) → told_of (progress_of saving) ≡ replies.DiskFault → ⊥
told_sound None is = cc
told_sound (Some s) is = by s.sealed is
  where
    by : (sealed : Bool) → told_of (cond sealed (steps.Sealed (length s.planned)) (steps.Writing s.done (length s.planned))) ≡ replies.DiskFault → ⊥
    by true is = cc
    by false is = cc

-- ---- a statement in which only pages that aren't selected are written

-- what a crash leaves at each moment
pub stays_leaves : (old : Logged) (before after : View) (p : Plain) (runs : Runs old before p) → Stays old.files before after → IsTold before → LeavesOnly before after (Leaves p.journal (journal_len p.journal) old.files runs.root runs.directory)
stays_leaves old before after p runs stays told = stay_leaves (two before after) p.journal old.files runs.root runs.directory old.saving p.phase false true stays runs.stored told

-- the disk failed
pub lost_save : (old new : Logged) (before after : View) (session : ℕ) (st : Statement) (p : Plain) → IsTrue (is_save st) → MayFault p session st → StandsFor old.store p → new.down ≡ true → new.store ≡ old.store
    → (IsTold before → LeavesOnly before after (HoldsPrefix p.journal (journal_len p.journal))) → IsLost p before session st replies.DiskFault new after
lost_save old new before after session st p save may stands down kept run = record {
  fault = refl;
  down = down;
  stands = subst (λ (e : Held). StandsFor e (step p session st).plain) (sym kept) (saved_stands old.store p stands session st save);
  may = may;
  any_moment = λ told. subst (λ (j : Journal). LeavesOnly before after (HoldsPrefix j (journal_len p.journal))) (sym (step_journal p session st save)) (run told);
}

-- ---- pages

module _ (old : Logged) (before : View) (session n : ℕ) (p : Plain) (runs : Runs old before p) (none : save_why p.phase (statements.SaveStep n) ≡ None) where
  -- the savepoint writes
  abbrev pub may_go_on : MayGoOn old before
  may_go_on =
      let is = writing_now p.journal old.files runs.root before n old.saving p.phase runs.stored.under_way none in
      record {
        saving = is.0;
        under_way = is.1;
        journal = p.journal;
        selected = runs.root;
        directory = runs.directory;
        captured = is.2;
        done = is.3;
        pages = is.4;
        image = is.5;
        stored = subst (λ (o : Option Saving). IsStored p.journal old.files runs.root runs.directory o (Writing is.2 is.3 is.4 is.5) before) is.1
            (subst (λ (phase : Phase). IsStored p.journal old.files runs.root runs.directory old.saving phase before) is.6 runs.stored);
      }

  pub written_answer : (new : Logged) (after : View) (reply : Reply) → Goes (min n (pages_left old.saving)) old before new after → Stays old.files before after → reply ≡ told_of (progress_of new.saving)
      → IsAnswered p before session (statements.SaveStep n) reply new after
  written_answer new after reply goes stays is_told =
      let is = writing_now p.journal old.files runs.root before n old.saving p.phase runs.stored.under_way none in
      let s = is.0 in
      let b = is.2 in
      let d = is.3 in
      let q = is.4 in
      let c = is.5 in
      let here = may_go_on.stored in
      let under = here.under_way in
      let count = min n (pages_left old.saving) in
      let counted : count ≡ min n (length s.planned - s.done) = ap (λ (o : Option Saving). min n (pages_left o)) is.1 in
      let all : d + count ≡ min q (d + n) = omega (arith, counted, under.done, under.pages, under.few) in
      let done : s.done + count ≡ min q (d + n) = omega (arith, all, under.done) in
      let phase : Phase = Writing b (min q (d + n)) q c in
      let saved : new.saving ≡ Some (more count s) = ap (λ (e : Logged). e.saving) goes.same ∙ ap (option_map (more count)) is.1 in
      let stored = subst (λ (m : ℕ). IsStored p.journal old.files runs.root runs.directory (Some (more count s)) (Writing b m q c) after) all (goes.stored p.journal runs.root runs.directory s b d q c is.1 here) in
      let step_is : step p session (statements.SaveStep n) ≡ save_written p n (Writing b d q c) = carried_out p session (statements.SaveStep n) refl none refl ∙ ap (save_written p n) is.6 in
      let plain : IsPlain (in_phase p phase p.root_pages) = subst (λ (x : Phase). IsPlain (save_written p n x).plain) is.6 (save_written_is p n runs.stands.plain) in
      let even = subst (λ (o : Option Saving). IsEven o) is.1 runs.even in
      let on = runs_on old before after p runs old.files (Some (more count s)) phase plain stored even runs.log runs.short refl in
      let told : told_of (progress_of new.saving) ≡ replies.Saving (min q (d + n)) q =
      ap (λ (o : Option Saving). told_of (progress_of o)) saved
      ∙ ap (λ (x : Bool). told_of (cond x (steps.Sealed (length s.planned)) (steps.Writing (s.done + count) (length s.planned)))) under.unsealed
      ∙ (λ i. replies.Saving (done i) (sym under.pages i)) in
      record {
        plain = in_phase p phase p.root_pages;
        may = Steps (is_told ∙ told ∙ sym (ap (λ (x : Stepped). x.reply) step_is)) (sym (ap (λ (x : Stepped). x.plain) step_is));
        runs = subst (λ (e : Logged). Runs e after (in_phase p phase p.root_pages)) (sym (goes.same ∙ ap (λ (o : Option Saving). record old { saving = o }) (ap (option_map (more count)) is.1))) on;
        sound = λ fault. told_sound new.saving (sym is_told ∙ fault);
        any_moment = λ t. to_prefix before after p.journal (journal_len p.journal) old p runs (stays_leaves old before after p runs stays t);
      }

pub serves_written : (old new : Logged) (before after : View) (session n : ℕ) (reply : Reply) → ((p : Plain) → Runs old before p → save_why p.phase (statements.SaveStep n) ≡ None) → Goes (min n (pages_left old.saving)) old before new after
    → Stays old.files before after → reply ≡ told_of (progress_of new.saving) → after.told ≡ before.told → after.faults ≡ before.faults → Serves old before session (statements.SaveStep n) reply new after
serves_written old new before after session n reply none goes stays is_told told same = record {
  each = λ p runs. inl (written_answer old before session n p runs (none p runs) new after reply goes stays is_told);
  keeps = λ p runs other t. to_root before after p.journal (journal_len p.journal) old p runs (stays_leaves old before after p runs stays t);
  selects = λ p runs flip. absurd (step_flip n flip);
  told = told;
  later = omega (arith, same);
  cause = λ fault. absurd (told_sound new.saving (sym is_told ∙ fault));
  still = λ _. same;
}
  where
    step_flip : (n : ℕ) → statements.SaveStep n ≡ statements.SaveFlip → ⊥
    step_flip n is = cc

-- ---- a page or the root, where the disk failed

pub serves_lost : (old new : Logged) (before after : View) (session : ℕ) (st : Statement) → IsTrue (is_save st) → (st ≡ statements.SaveFlip → ⊥) → ((p : Plain) → Runs old before p → MayFault p session st) → Stays old.files before after → new.down ≡ true → new.store ≡ old.store
    → after.told ≡ before.told → before.faults ≤ after.faults → Rose before.faults after.faults → Serves old before session st replies.DiskFault new after
serves_lost old new before after session st save not_flip may stays down kept told later rose = record {
  each = λ p runs. inr (lost_save old new before after session st p save (may p runs) runs.stands down kept (λ t. to_prefix before after p.journal (journal_len p.journal) old p runs (stays_leaves old before after p runs stays t)));
  keeps = λ p runs other t. to_root before after p.journal (journal_len p.journal) old p runs (stays_leaves old before after p runs stays t);
  selects = λ p runs flip. absurd (not_flip flip);
  told = told;
  later = later;
  cause = λ _. rose;
  still = λ sound. absurd (sound refl);
}

-- ---- the root

module _ (old : Logged) (before : View) (session : ℕ) (p : Plain) (runs : Runs old before p) (none : save_why p.phase statements.SaveSeal ≡ None) where
  abbrev pub may_seal : MayGoOn old before
  may_seal =
      let is = all_written p.journal old.files runs.root before old.saving p.phase runs.stored.under_way none in
      record {
        saving = is.0;
        under_way = is.1;
        journal = p.journal;
        selected = runs.root;
        directory = runs.directory;
        captured = is.2;
        done = is.3;
        pages = is.3;
        image = is.4;
        stored = subst (λ (o : Option Saving). IsStored p.journal old.files runs.root runs.directory o (Writing is.2 is.3 is.3 is.4) before) is.1
            (subst (λ (phase : Phase). IsStored p.journal old.files runs.root runs.directory old.saving phase before) is.5 runs.stored);
      }

  pub sealed_answer : (new : Logged) (after : View) (reply : Reply) → Seals old before new after → Stays old.files before after → reply ≡ told_of (progress_of new.saving) → IsAnswered p before session statements.SaveSeal reply new after
  sealed_answer new after reply seals stays is_told =
      let is = all_written p.journal old.files runs.root before old.saving p.phase runs.stored.under_way none in
      let s = is.0 in
      let b = is.2 in
      let q = is.3 in
      let c = is.4 in
      let here = may_seal.stored in
      let phase : Phase = Sealed b q c in
      let saved : new.saving ≡ Some (with_root s) = ap (λ (e : Logged). e.saving) seals.same ∙ ap (option_map with_root) is.1 in
      let stored = seal_is_stored (two before after) p.journal old.files runs.root runs.directory s b q q c false true is.6 stays (seals.ready s is.1) here in
      let step_is : step p session statements.SaveSeal ≡ save_sealed p (Writing b q q c) = carried_out p session statements.SaveSeal refl none refl ∙ ap (save_sealed p) is.5 in
      let plain : IsPlain (in_phase p phase p.root_pages) = subst (λ (x : Phase). IsPlain (save_sealed p x).plain) is.5 (save_sealed_is p runs.stands.plain) in
      let even = subst (λ (o : Option Saving). IsEven o) is.1 runs.even in
      let on = runs_on old before after p runs old.files (Some (with_root s)) phase plain stored even runs.log runs.short refl in
      let told : told_of (progress_of new.saving) ≡ replies.Sealed q = ap (λ (o : Option Saving). told_of (progress_of o)) saved ∙ ap replies.Sealed (sym here.under_way.pages) in
      record {
        plain = in_phase p phase p.root_pages;
        may = Steps (is_told ∙ told ∙ sym (ap (λ (x : Stepped). x.reply) step_is)) (sym (ap (λ (x : Stepped). x.plain) step_is));
        runs = subst (λ (e : Logged). Runs e after (in_phase p phase p.root_pages)) (sym (seals.same ∙ ap (λ (o : Option Saving). record old { saving = o }) (ap (option_map with_root) is.1))) on;
        sound = λ fault. told_sound new.saving (sym is_told ∙ fault);
        any_moment = λ t. to_prefix before after p.journal (journal_len p.journal) old p runs (stays_leaves old before after p runs stays t);
      }

pub serves_sealed : (old new : Logged) (before after : View) (session : ℕ) (reply : Reply) → ((p : Plain) → Runs old before p → save_why p.phase statements.SaveSeal ≡ None) → Seals old before new after → Stays old.files before after
    → reply ≡ told_of (progress_of new.saving) → after.told ≡ before.told → after.faults ≡ before.faults → Serves old before session statements.SaveSeal reply new after
serves_sealed old new before after session reply none seals stays is_told told same = record {
  each = λ p runs. inl (sealed_answer old before session p runs (none p runs) new after reply seals stays is_told);
  keeps = λ p runs other t. to_root before after p.journal (journal_len p.journal) old p runs (stays_leaves old before after p runs stays t);
  selects = λ p runs flip. let no : statements.SaveSeal ≡ statements.SaveFlip = flip in cc;
  told = told;
  later = omega (arith, same);
  cause = λ fault. absurd (told_sound new.saving (sym is_told ∙ fault));
  still = λ _. same;
}
