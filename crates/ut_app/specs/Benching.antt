-- How far a run of the benchmark's script is, and what it comes to.
use Rattle.std.specs.Prelude.{ℕ, ◌≡◌, ◌≤◌, ◌⊎◌, List, [], ◌++◌, length, Option, Ok, Err}
use Rattle.ut_outside.specs.Disk.{View, IsTold}
use Rattle.ut_outside.specs.Faults.{Rose}
use Rattle.ut_outside.specs.declared.ack.Ack.{Ack}
use Rattle.ut_outside.specs.declared.faults.Failed.{Failed}
use Rattle.ut_plain.specs.Plain.{Plain}
use Rattle.ut_plain.specs.Transcript.{Answer}
use Rattle.ut_engine.specs.Logged.{Logged}
use Rattle.ut_gen.specs.Script.{script}
use Rattle.ut_words.specs.declared.plan.Plan.{Plan}
use Rattle.ut_run.specs.declared.report.Status.{Status}
use Rattle.ut_run.specs.declared.report.Status.TheVariants.{Done, Usage, WriteFault, DiskFault, Memory}
use Rattle.ut_run.specs.World.{World, NoFault}
use Rattle.ut_run.specs.Plans.{start_of}
use Rattle.ut_run.specs.Writing.{Writes}
use Rattle.ut_run.specs.Origin.{Origin, Begins}
use Rattle.ut_run.specs.Serving.{Course, Served, EndedEarly}
use Rattle.ut_run.specs.Ends.{FitsStore, HasRisen, IsEarly}
use Rattle.ut_store.specs.Held.{Held}
use Rattle.ut_store.specs.Stands.{StandsFor}
use Rattle.ut_app.specs.declared.tally.Tally.{Tally}
use Rattle.ut_app.specs.Hearing.{Noting, tally_of}
use Rattle.ut_app.specs.Figures.{figures_by, figures_of, figures_text}

-- the lines that a plan's seed and size give
abbrev pub script_of : Plan → List (List ℕ)
script_of plan = script plan.seed plan.size

-- So many lines of the script were answered, these are left, the store runs, and the count of the disk's faults stayed.
pub record IsBenching (plan : Plan) (entry now : View) (left : List (List ℕ)) (lines : ℕ) (store : Logged) (notes : Noting) : Type 0 where
  pub front : List (List ℕ)
  pub parts : script_of plan ≡ front ++ left
  pub count_is : lines ≡ length front
  pub answers : List Answer
  pub course : Course (start_of plan) plan.rows entry now front answers store notes.acks notes.journal
  pub tally : notes.tally ≡ tally_of answers
  pub few : notes.tally.refused ≤ lines
  pub told : now.told ≡ entry.told
  pub faults : now.faults ≡ entry.faults

-- the source wasn't asked
pub record IsUnasked (before after : World) : Type 0 where
  pub source : after.source ≡ before.source
  pub asks : after.asks ≡ before.asks
  pub reads : after.reads ≡ before.reads

-- what a sink holds, the moments of its bytes, and how often it has failed
pub record Sinking : Type 0 where
  pub held : Option (List ℕ)
  pub marks : List ℕ
  pub writes : ℕ

-- the sink of the world outside
abbrev pub sink_of : World → Sinking
sink_of w = record { held = w.sink; marks = w.marks; writes = w.writes }

-- the line was written, or where the sink failed a part of it; with any other status it was given nothing
abbrev pub TellsLine : Status → Sinking → List ℕ → ℕ → Sinking → Type 0
TellsLine Done was text moment now = Writes {T = Unit {0}} {E = Failed} was.held was.marks text moment (Ok tt) now.held now.marks
TellsLine WriteFault was text moment now =
    (e : Failed) × Writes {T = Unit {0}} {E = Failed} was.held was.marks text moment (Err e) now.held now.marks
TellsLine _ was text moment now = now ≡ was

-- what is noted stays
pub record KeepsNotes
    (acks : List Ack) (journal : ℕ) (tally : Tally) (acks_now : List Ack) (journal_now : ℕ)
    (tally_now : Tally) : Type 0 where
  pub same_acks : acks_now ≡ acks
  pub same_journal : journal_now ≡ journal
  pub same_tally : tally_now ≡ tally

-- a status at the end of the script
abbrev pub IsTelling : Status → Type 0
IsTelling Done = Unit {0}
IsTelling WriteFault = Unit {0}
IsTelling Memory = Unit {0}
IsTelling _ = ⊥

-- where the line was to be written, no line of the script is left
abbrev pub IsThrough : Status → List (List ℕ) → Type 0
IsThrough Done left = left ≡ []
IsThrough WriteFault left = left ≡ []
IsThrough _ left = Unit {0}

-- The first lines of the script were answered, in place of a source's.
pub record Benched (plan : Plan) (before after : World) (status : Status) (lines : ℕ) (acks : List Ack) (journal : ℕ) : Type 0 where
  pub front : List (List ℕ)
  pub left : List (List ℕ)
  pub parts : script_of plan ≡ front ++ left
  pub count : lines ≡ length front
  pub through : IsThrough status left
  pub answers : List Answer
  pub plain : Plain
  pub served : Served (start_of plan) plan.rows before.disk after.disk status front answers acks journal plain
  pub written : TellsLine status (sink_of before) (figures_text (figures_of lines answers plain.journal)) after.disk.moment (sink_of after)

-- What is told at the end of the script, whatever plain state the store stands for and whichever answers were counted.
pub record TellsEnd (store : Held) (lines : ℕ) (tally : Tally) (status : Status) (was : Sinking) (moment : ℕ) (now : Sinking) : Type 0 where
  pub each : (p : Plain) → StandsFor store p → TellsLine status was (figures_text (figures_by lines tally p.journal)) moment now
  pub says : IsTelling status
  pub cause : status ≡ WriteFault → Rose was.writes now.writes
  pub still : status ≡ Done → now.writes ≡ was.writes

-- a status of a run that reached the script
abbrev pub IsReached : Status → Type 0
IsReached Done = Unit {0}
IsReached WriteFault = Unit {0}
IsReached DiskFault = Unit {0}
IsReached Memory = Unit {0}
IsReached _ = ⊥

-- The run ended before the first line, or lines were answered.
pub data BenchEnd (plan : Plan) (before after : World) (status : Status) (lines : ℕ) (acks : List Ack) (journal : ℕ) : Type 0 where
  Early : IsEarly status → EndedEarly (start_of plan) before after status lines acks journal
      → BenchEnd plan before after status lines acks journal
  Late : IsReached status → Benched plan before after status lines acks journal → BenchEnd plan before after status lines acks journal

-- Where the files are what the run begins with and no count of faults rose, the status is Done or Memory.
pub record IsWholeBench (plan : Plan) (before after : World) (status : Status) : Type 0 where
  pub complete : IsTold before.disk → (first : Origin) → Begins (start_of plan) first before.disk.seen
      → (Rose before.writes after.writes → ⊥) → (Rose before.disk.faults after.disk.faults → ⊥)
      → (status ≡ Done) ⊎ (status ≡ Memory)

-- All that holds of a run of the benchmark.
pub record BenchRun (plan : Plan) (before after : World) (status : Status) (lines : ℕ) (acks : List Ack) (journal : ℕ) : Type 0 where
  -- what was answered, written and acknowledged, and what a crash leaves of it
  pub ended : BenchEnd plan before after status lines acks journal
  pub unasked : IsUnasked before after
  -- NoStore, Exists and Damaged exactly where the files say so
  pub store : IsTold before.disk → FitsStore status (start_of plan) before.disk.seen
  -- a fault only where its count rose
  pub cause : HasRisen status before after
  -- and a fault that was counted is told: Done only where no count rose
  pub still : status ≡ Done → NoFault before after
  pub taken : status ≡ Usage → ⊥
  -- where nothing is in the way, all is done, but for want of memory
  pub complete : IsWholeBench plan before after status
