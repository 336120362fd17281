-- Which answers to the calls of a savepoint say that the disk failed, and when the store is down.
use Rattle.std.proofs.Common.{◌≡◌, ◌⊎◌, ⊎_elim, ℕ, Bool, true, false, Option, Result, Ok, Err, refl, sym, ◌∙◌, ap, arith}
use Rattle.ut_outside.specs.Disk.{View}
use Rattle.ut_plain.specs.declared.statement.Statement.{Statement}
use Rattle.ut_plain.specs.declared.statement.Statement.TheVariants as statements
use Rattle.ut_plain.specs.declared.reply.Reply.{Reply}
use Rattle.ut_plain.specs.declared.reply.Reply.TheVariants as replies
use Rattle.ut_plain.specs.Journal.{journal_len}
use Rattle.ut_plain.specs.Plain.{Plain}
use Rattle.ut_plain.specs.Step.{MayFault}
use Rattle.ut_durable.specs.Saving.{Saving}
use Rattle.ut_engine.specs.declared.error.SaveError.{SaveError}
use Rattle.ut_engine.specs.declared.error.SaveError.TheVariants as begins
use Rattle.ut_engine.specs.declared.error.PhaseError.{PhaseError}
use Rattle.ut_engine.specs.declared.error.PhaseError.TheVariants as phases
use Rattle.ut_engine.specs.Logged.{Logged}
use Rattle.ut_engine.specs.Runs.{Runs}
use Rattle.ut_engine.specs.Savepoints.{save_reply, phase_reply, flip_reply, is_save_fault, is_phase_fault}
use Rattle.ut_engine.specs.Serves.{Serves, IsAnswered, IsLost}
use Rattle.ut_engine.proofs.SaveLemmas.{step_journal}
use Rattle.ut_engine.proofs.WriteLemmas.{told_sound}

-- it is down exactly where the reply is a fault
abbrev IsFault : Reply → Bool → Type 0
IsFault reply fault = ((reply ≡ replies.DiskFault → ⊥) → fault ≡ false) × (reply ≡ replies.DiskFault → fault ≡ true)

down_is : (old new : Logged) (before after : View) (session : ℕ) (st : Statement) (reply : Reply) (fault : Bool) (p : Plain) → Runs old before p → Serves old before session st reply new after → IsFault reply fault → new.down ≡ fault
down_is old new before after session st reply fault p runs serves is = by_case (serves.each p runs)
  where
    by_case : IsAnswered p before session st reply new after ⊎ IsLost p before session st reply new after → new.down ≡ fault
    by_case case = ⊎_elim (λ answered. answered.runs.up ∙ sym (is.0 answered.sound)) (λ lost. lost.down ∙ sym (is.1 lost.fault)) case

save_fault : (result : Result ℕ SaveError) → IsFault (save_reply result) (is_save_fault result)
save_fault (Ok pages) = (λ sound. refl, λ fault. cc)
save_fault (Err (begins.State why)) = (λ sound. refl, λ fault. cc)
save_fault (Err begins.Full) = (λ sound. refl, λ fault. cc)
save_fault (Err begins.Memory) = (λ sound. refl, λ fault. cc)
save_fault (Err begins.Disk) = (λ sound. absurd (sound refl), λ fault. refl)

phase_fault : {T : Type 0} (result : Result T PhaseError) (saving : Option Saving) → IsFault (phase_reply result saving) (is_phase_fault result)
phase_fault (Ok done) saving = (λ sound. refl, λ fault. absurd (told_sound saving fault))
phase_fault (Err (phases.State why)) saving = (λ sound. refl, λ fault. cc)
phase_fault (Err phases.Disk) saving = (λ sound. absurd (sound refl), λ fault. refl)

flip_fault : (result : Result ℕ PhaseError) → IsFault (flip_reply result) (is_phase_fault result)
flip_fault (Ok entries) = (λ sound. refl, λ fault. cc)
flip_fault (Err (phases.State why)) = (λ sound. refl, λ fault. cc)
flip_fault (Err phases.Disk) = (λ sound. absurd (sound refl), λ fault. refl)

pub begin_down : (old new : Logged) (before after : View) (session : ℕ) (st : Statement) (result : Result ℕ SaveError) (p : Plain) → Runs old before p → Serves old before session st (save_reply result) new after → new.down ≡ is_save_fault result
begin_down old new before after session st result p runs serves = down_is old new before after session st (save_reply result) (is_save_fault result) p runs serves (save_fault result)

pub phase_down : {T : Type 0} (old new : Logged) (before after : View) (session : ℕ) (st : Statement) (result : Result T PhaseError) (saving : Option Saving) (p : Plain) → Runs old before p → Serves old before session st (phase_reply result saving) new after
    → new.down ≡ is_phase_fault result
phase_down old new before after session st result saving p runs serves = down_is old new before after session st (phase_reply result saving) (is_phase_fault result) p runs serves (phase_fault result saving)

pub flip_down : (old new : Logged) (before after : View) (session : ℕ) (st : Statement) (result : Result ℕ PhaseError) (p : Plain) → Runs old before p → Serves old before session st (flip_reply result) new after → new.down ≡ is_phase_fault result
flip_down old new before after session st result p runs serves = down_is old new before after session st (flip_reply result) (is_phase_fault result) p runs serves (flip_fault result)

-- ---- a drop calls no disk

no_fault : (p : Plain) (session : ℕ) → MayFault p session statements.SaveDrop → ⊥
no_fault p session may = ⊎_elim (λ longer. let same = ap journal_len (step_journal p session statements.SaveDrop refl) in omega (arith, longer, same)) (λ writes. absurd cc) may.writes

pub drop_is_up : (old new : Logged) (before after : View) (session : ℕ) (reply : Reply) (p : Plain) → Runs old before p → Serves old before session statements.SaveDrop reply new after → new.down ≡ false
drop_is_up old new before after session reply p runs serves = by_case (serves.each p runs)
  where
    by_case : IsAnswered p before session statements.SaveDrop reply new after ⊎ IsLost p before session statements.SaveDrop reply new after → new.down ≡ false
    by_case case = ⊎_elim (λ answered. answered.runs.up) (λ lost. absurd (no_fault p session lost.may)) case
