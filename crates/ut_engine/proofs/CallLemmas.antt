-- What the calls of a savepoint serve, by what the calls below them did.
use Rattle.std.proofs.Common.{◌≡◌, ℕ, ◌≤◌, min, true, None, refl, sym, subst}
use Rattle.ut_outside.specs.Disk.{View}
use Rattle.ut_outside.specs.Faults.{Rose}
use Rattle.ut_plain.specs.declared.statement.Statement.TheVariants as statements
use Rattle.ut_plain.specs.declared.reply.Reply.{Reply}
use Rattle.ut_plain.specs.declared.reply.Reply.TheVariants as replies
use Rattle.ut_plain.specs.Plain.{Plain}
use Rattle.ut_plain.specs.Refusals.{save_why}
use Rattle.ut_durable.specs.Calls.{Stays}
use Rattle.ut_engine.specs.Logged.{Logged}
use Rattle.ut_engine.specs.Runs.{Runs}
use Rattle.ut_engine.specs.Savepoints.{progress_of, told_of, IsCounted}
use Rattle.ut_engine.specs.Saves.{pages_left, Goes, Seals}
use Rattle.ut_engine.specs.Serves.{Serves}
use Rattle.ut_engine.proofs.PhaseLemmas.{is_counted}
use Rattle.ut_engine.proofs.SaveLemmas.{may_fault}
use Rattle.ut_engine.proofs.WriteLemmas.{written_answer, sealed_answer, serves_lost}

-- ---- how far it is then can be told

pub written_counted : (old new : Logged) (before after : View) (n : ℕ) (p : Plain) → Runs old before p → save_why p.phase (statements.SaveStep n) ≡ None → Goes (min n (pages_left old.saving)) old before new after → Stays old.files before after → IsCounted new.saving
written_counted old new before after n p runs none goes stays =
    let answer = written_answer old before 0 n p runs none new after (told_of (progress_of new.saving)) goes stays refl in
    is_counted new after answer.plain answer.runs

pub sealed_counted : (old new : Logged) (before after : View) (p : Plain) → Runs old before p → save_why p.phase statements.SaveSeal ≡ None → Seals old before new after → Stays old.files before after → IsCounted new.saving
sealed_counted old new before after p runs none seals stays =
    let answer = sealed_answer old before 0 p runs none new after (told_of (progress_of new.saving)) seals stays refl in
    is_counted new after answer.plain answer.runs

-- ---- where the disk failed

step_flip : (n : ℕ) → statements.SaveStep n ≡ statements.SaveFlip → ⊥
step_flip n is = cc

seal_flip : statements.SaveSeal ≡ statements.SaveFlip → ⊥
seal_flip is = cc

pub serves_unwritten : (old new : Logged) (before after : View) (session n : ℕ) (reply : Reply) → ((p : Plain) → Runs old before p → save_why p.phase (statements.SaveStep n) ≡ None) → Stays old.files before after → reply ≡ replies.DiskFault → new.down ≡ true → new.store ≡ old.store
    → after.told ≡ before.told → before.faults ≤ after.faults → Rose before.faults after.faults → Serves old before session (statements.SaveStep n) reply new after
serves_unwritten old new before after session n reply none stays fault down kept told later rose =
    subst (λ (r : Reply). Serves old before session (statements.SaveStep n) r new after) (sym fault)
    (serves_lost old new before after session (statements.SaveStep n) refl (step_flip n) (λ p runs. may_fault p session (statements.SaveStep n) refl (none p runs) refl refl) stays down kept told later rose)

pub serves_unsealed : (old new : Logged) (before after : View) (session : ℕ) (reply : Reply) → ((p : Plain) → Runs old before p → save_why p.phase statements.SaveSeal ≡ None) → Stays old.files before after → reply ≡ replies.DiskFault → new.down ≡ true → new.store ≡ old.store
    → after.told ≡ before.told → before.faults ≤ after.faults → Rose before.faults after.faults → Serves old before session statements.SaveSeal reply new after
serves_unsealed old new before after session reply none stays fault down kept told later rose =
    subst (λ (r : Reply). Serves old before session statements.SaveSeal r new after) (sym fault)
    (serves_lost old new before after session statements.SaveSeal refl seal_flip (λ p runs. may_fault p session statements.SaveSeal refl (none p runs) refl refl) stays down kept told later rose)
