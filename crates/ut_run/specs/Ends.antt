-- Why a run ended, and what that says.
use Rattle.std.specs.Prelude.{ℕ, ◌≡◌, ◌⊎◌, false, List, Some}
use Rattle.ut_outside.specs.Disk.{Image, IsTold}
use Rattle.ut_outside.specs.Faults.{Rose}
use Rattle.ut_outside.specs.declared.ack.Ack.{Ack}
use Rattle.ut_pages.specs.Layout.{IsMade}
use Rattle.ut_plain.specs.Journal.{Journal}
use Rattle.ut_durable.specs.Journals.{HoldsJournal}
use Rattle.ut_run.specs.declared.start.Start.{Start}
use Rattle.ut_run.specs.declared.start.Start.TheVariants.{New, Open}
use Rattle.ut_run.specs.declared.report.Status.{Status}
use Rattle.ut_run.specs.declared.report.Status.TheVariants.{Done, Usage, NoStore, Exists, ReadFault, WriteFault, DiskFault, Damaged, Memory, TooLong}
use Rattle.ut_words.specs.declared.plan.Plan.{Plan}
use Rattle.ut_run.specs.World.{World, NoFault}
use Rattle.ut_run.specs.Plans.{start_of}
use Rattle.ut_run.specs.Script.{is_too_long, FitsInput}
use Rattle.ut_run.specs.Origin.{Origin, Begins}
use Rattle.ut_run.specs.Serving.{Ran, EndedEarly}

-- ---- the store

-- what a status says of the files: there is none where one was to be opened,
-- one where it was to be made, one that is damaged, or else what the run begins with
abbrev pub FitsStore : Status → Start → Image → Type 0
FitsStore NoStore start c = (start ≡ Open) × (IsMade c.pages → ⊥)
FitsStore Exists start c = (start ≡ New) × IsMade c.pages
FitsStore Damaged start c = (start ≡ Open) × IsMade c.pages × ((j : Journal) → HoldsJournal j c → ⊥)
FitsStore Usage start c = Unit {0}
FitsStore DiskFault start c = Unit {0}
FitsStore Memory start c = Unit {0}
FitsStore _ start c = (first : Origin) × Begins start first c

-- ---- the causes

-- the count of faults that a status speaks of rose
abbrev pub HasRisen : Status → World → World → Type 0
HasRisen ReadFault before after = Rose before.reads after.reads
HasRisen WriteFault before after = Rose before.writes after.writes
HasRisen DiskFault before after = Rose before.disk.faults after.disk.faults
HasRisen _ before after = Unit {0}

-- ---- the run

-- a status of a run that ended before a line was read
abbrev pub IsEarly : Status → Type 0
IsEarly NoStore = Unit {0}
IsEarly Exists = Unit {0}
IsEarly Damaged = Unit {0}
IsEarly DiskFault = Unit {0}
IsEarly Memory = Unit {0}
IsEarly _ = ⊥

-- a status of a run that reached the lines
abbrev pub IsLate : Status → Type 0
IsLate Done = Unit {0}
IsLate ReadFault = Unit {0}
IsLate WriteFault = Unit {0}
IsLate DiskFault = Unit {0}
IsLate Memory = Unit {0}
IsLate TooLong = Unit {0}
IsLate _ = ⊥

-- The run ended before a line was read, or lines were answered.
pub data RunEnd (plan : Plan) (before after : World) (status : Status) (lines : ℕ) (acks : List Ack) (journal : ℕ) : Type 0 where
  Early : IsEarly status → EndedEarly (start_of plan) before after status lines acks journal
      → RunEnd plan before after status lines acks journal
  Late : IsLate status → Ran plan before after status lines acks journal → RunEnd plan before after status lines acks journal

-- Where the files are what the run begins with, the input keeps to the limits and no count of faults rose, the status is Done or Memory.
pub record IsComplete (plan : Plan) (before after : World) (status : Status) : Type 0 where
  pub complete : IsTold before.disk → (first : Origin) → Begins (start_of plan) first before.disk.seen
      → (input : List ℕ) → before.source ≡ Some input → is_too_long plan.lines input ≡ false
      → (Rose before.reads after.reads → ⊥) → (Rose before.writes after.writes → ⊥)
      → (Rose before.disk.faults after.disk.faults → ⊥) → (status ≡ Done) ⊎ (status ≡ Memory)

-- All that holds of a run of the source's lines.
pub record Run (plan : Plan) (before after : World) (status : Status) (lines : ℕ) (acks : List Ack) (journal : ℕ) : Type 0 where
  -- what was answered, written and acknowledged, and what a crash leaves of it
  pub ended : RunEnd plan before after status lines acks journal
  -- NoStore, Exists and Damaged exactly where the files say so
  pub store : IsTold before.disk → FitsStore status (start_of plan) before.disk.seen
  -- TooLong only where the input is past the limits, and Done only where it isn't
  pub input : FitsInput plan.lines status before.source
  -- a fault only where its count rose
  pub cause : HasRisen status before after
  -- and a fault that was counted is told: Done only where no count rose
  pub still : status ≡ Done → NoFault before after
  pub taken : status ≡ Usage → ⊥
  -- where nothing is in the way, all is done, but for want of memory
  pub complete : IsComplete plan before after status
