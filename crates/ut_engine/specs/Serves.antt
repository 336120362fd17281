-- What a statement does to a running store and to its files.
use Rattle.std.specs.Prelude.{ℕ, ◌≡◌, ◌≤◌, ◌⊎◌, true}
use Rattle.ut_outside.specs.Disk.{View, IsTold}
use Rattle.ut_outside.specs.Faults.{Rose}
use Rattle.ut_outside.specs.Run.{Always, LeavesOnly}
use Rattle.ut_plain.specs.declared.statement.Statement.{Statement}
use Rattle.ut_plain.specs.declared.statement.Statement.TheVariants as statements
use Rattle.ut_plain.specs.declared.reply.Reply.{Reply}
use Rattle.ut_plain.specs.declared.reply.Reply.TheVariants.{DiskFault, Root as RootReply}
use Rattle.ut_plain.specs.Journal.{journal_len}
use Rattle.ut_plain.specs.Plain.{Plain, Phase, Sealed}
use Rattle.ut_plain.specs.Step.{step, MayAnswer, MayFault}
use Rattle.ut_store.specs.Stands.{StandsFor}
use Rattle.ut_pages.specs.declared.root.Root.{Root}
use Rattle.ut_durable.specs.Journals.{HoldsPrefix}
use Rattle.ut_durable.specs.Files.{HasSelected}
use Rattle.ut_engine.specs.Logged.{Logged}
use Rattle.ut_engine.specs.Runs.{Runs}

-- It is answered: the plain state may give this reply, and the store runs from the state after it.
-- A crash at any moment leaves all that was there, with the statement's own entry or without it.
pub record IsAnswered
    (p : Plain) (before : View) (session : ℕ) (st : Statement) (reply : Reply) (new : Logged)
    (after : View) : Type 0 where
  pub plain : Plain
  pub may : MayAnswer p session st reply plain
  pub runs : Runs new after plain
  pub sound : reply ≡ DiskFault → ⊥
  pub any_moment : IsTold before → LeavesOnly before after (HoldsPrefix plain.journal (journal_len p.journal))

-- Or the disk failed, where it may, and the store is down: its memory is that of the state after the statement.
-- A crash at any moment leaves all that was there, with that entry or without it.
pub record IsLost (p : Plain) (before : View) (session : ℕ) (st : Statement) (reply : Reply) (new : Logged) (after : View) : Type 0 where
  pub fault : reply ≡ DiskFault
  pub down : new.down ≡ true
  pub stands : StandsFor new.store (step p session st).plain
  pub may : MayFault p session st
  pub any_moment : IsTold before → LeavesOnly before after (HoldsPrefix (step p session st).plain.journal (journal_len p.journal))

-- At each moment of a call a crash leaves the root that was selected, its pages and its directory.
abbrev pub KeepsRoot : (old : Logged) (before : View) (p : Plain) → Runs old before p → View → Type 0
KeepsRoot old before p runs after =
    IsTold before → LeavesOnly before after (HasSelected old.files.slot old.files.reached runs.root runs.directory)

-- After a flip that is answered each outcome of a crash has a selected root of the captured length, with the captured directory.
abbrev pub Selects : Phase → Reply → Logged → View → Type 0
Selects (Sealed captured pages image) (RootReply n) new after =
    (n ≡ captured)
    × (IsTold after → Always after
    (λ c. (root : Root) × (root.length ≡ captured) × HasSelected new.files.slot new.files.reached root image c))
Selects phase reply new after = Unit {0}

-- What a statement does, whatever plain state the store ran from.
pub record Serves (old : Logged) (before : View) (session : ℕ) (st : Statement) (reply : Reply) (new : Logged) (after : View) : Type 0 where
  pub each : (p : Plain) → Runs old before p → IsAnswered p before session st reply new after ⊎ IsLost p before session st reply new after
  -- a flip selects what was captured, and all others keep what was selected
  pub keeps : (p : Plain) (runs : Runs old before p) → (st ≡ statements.SaveFlip → ⊥) → KeepsRoot old before p runs after
  pub selects : (p : Plain) → Runs old before p → st ≡ statements.SaveFlip → Selects p.phase reply new after
  pub told : after.told ≡ before.told
  pub later : before.faults ≤ after.faults
  pub cause : reply ≡ DiskFault → Rose before.faults after.faults
  -- a fault that was counted is told
  pub still : (reply ≡ DiskFault → ⊥) → after.faults ≡ before.faults
