-- How far a run is, and what it came to.
use Rattle.std.specs.Prelude.{ℕ, ◌≡◌, ◌≤◌, ◌⊎◌, true, false, List, [], length, map}
use Rattle.ut_outside.specs.Disk.{View, Image, IsTold}
use Rattle.ut_outside.specs.Faults.{Rose}
use Rattle.ut_outside.specs.Run.{ReadsOnly}
use Rattle.ut_outside.specs.declared.ack.Ack.{Ack}
use Rattle.ut_pages.specs.Layout.{IsMade}
use Rattle.ut_plain.specs.declared.statement.Parsed.{Parsed}
use Rattle.ut_plain.specs.Journal.{journal_len}
use Rattle.ut_plain.specs.Plain.{Plain}
use Rattle.ut_plain.specs.Transcript.{Answer, Transcript}
use Rattle.ut_script.specs.Grammar.{parsed}
use Rattle.ut_engine.specs.Logged.{Logged}
use Rattle.ut_engine.specs.Runs.{Runs}
use Rattle.ut_run.specs.declared.start.Start.{Start}
use Rattle.ut_run.specs.declared.start.Start.TheVariants.{New, Open}
use Rattle.ut_run.specs.declared.report.Status.{Status}
use Rattle.ut_run.specs.declared.report.Status.TheVariants as statuses
use Rattle.ut_run.specs.World.{World, StreamsStay, DiskStays}
use Rattle.ut_words.specs.declared.plan.Plan.{Plan}
use Rattle.ut_run.specs.Plans.{start_of}
use Rattle.ut_run.specs.Script.{all_fit, ReadsInput}
use Rattle.ut_course.specs.Telling.{Tells, AnswersAll, AnswersToFault}
use Rattle.ut_run.specs.Writing.{HasWritten, HasFront}
use Rattle.ut_run.specs.Asking.{replies_of, AsksInTime}
use Rattle.ut_run.specs.Origin.{Origin, opened, Begins}
use Rattle.ut_course.specs.Keeping.{lengths_of}
use Rattle.ut_run.specs.Keeping.{Kept, HoldsRun, HoldsWhole, NothingPending}

-- lines as the grammar reads them
abbrev pub parsed_lines : List (List ℕ) → List Parsed
parsed_lines script = map (parsed false) script

-- These lines were answered so one after the other, with so many rows at most; what was acknowledged and kept meanwhile.
pub record Course
    (start : Start) (rows : ℕ) (entry now : View) (script : List (List ℕ)) (answers : List Answer) (store : Logged)
    (acks : List Ack) (journal : ℕ) : Type 0 where
  pub first : Origin
  pub plain : Plain
  pub begins : IsTold entry → Begins start first entry.seen
  pub tells : Tells (opened first rows) (parsed_lines script) answers (lengths_of acks) plain
  pub runs : Runs store now plain
  pub kept : IsTold entry → Kept start entry now first.journal plain.journal acks
  pub length_is : journal ≡ journal_len plain.journal

-- and what was written
pub record Progress
    (plan : Plan) (before now : World) (script : List (List ℕ)) (store : Logged) (acks : List Ack)
    (journal : ℕ) : Type 0 where
  pub answers : List Answer
  pub course : Course (start_of plan) plan.rows before.disk now.disk script answers store acks journal
  pub written : HasWritten before.sink answers now.sink now.marks acks
  pub in_time : AsksInTime before.source before.sink before.asks (replies_of (parsed_lines script) answers) now.asks

-- where the disk failed, the status says so, or that the sink failed too
abbrev pub IsFault : Status → Type 0
IsFault statuses.DiskFault = Unit {0}
IsFault statuses.WriteFault = Unit {0}
IsFault _ = ⊥

-- All answers were written, or where the sink failed all but the end of the last one.
abbrev pub IsWritten : Status → World → List Answer → World → List Ack → Type 0
IsWritten statuses.WriteFault before answers after acks = HasFront before.sink answers after.disk.moment after.sink after.marks acks
IsWritten _ before answers after acks = HasWritten before.sink answers after.sink after.marks acks

-- The lines were answered to the last, and a crash now leaves the whole journal.
pub record AllAnswered
    (p : Plain) (script : List (List ℕ)) (answers : List Answer) (acks : List Ack) (journal : ℕ) (q : Plain)
    (now : View) : Type 0 where
  pub all : AnswersAll p (parsed_lines script) answers (lengths_of acks) journal q
  pub stays : IsTold now → HoldsWhole now q.journal

-- They were answered to one at which the disk failed.
pub record LastFaulted
    (p : Plain) (script : List (List ℕ)) (answers : List Answer) (acks : List Ack) (journal : ℕ) (q : Plain)
    (entry now : View) (status : Status) : Type 0 where
  pub cut : AnswersToFault p (parsed_lines script) answers (lengths_of acks) journal q
  pub says : IsFault status
  pub rose : Rose entry.faults now.faults

-- What was answered to these lines, acknowledged and kept, and the state after them.
pub record Served
    (start : Start) (rows : ℕ) (entry now : View) (status : Status) (script : List (List ℕ)) (answers : List Answer)
    (acks : List Ack) (journal : ℕ) (plain : Plain) : Type 0 where
  -- the journal at the entry, and what the store was opened with beside it
  pub first : Origin
  pub begins : IsTold entry → Begins start first entry.seen
  pub transcript : Transcript (opened first rows) (parsed_lines script) answers plain
  -- one acknowledgement for each answer, with the length of the journal after its line, or before it where the disk failed
  pub ended : AllAnswered (opened first rows) script answers acks journal plain now
      ⊎ LastFaulted (opened first rows) script answers acks journal plain entry now status
  pub kept : IsTold entry → Kept start entry now first.journal plain.journal acks

-- and what was written
pub record Answered
    (plan : Plan) (before after : World) (status : Status) (script : List (List ℕ)) (acks : List Ack)
    (journal : ℕ) : Type 0 where
  pub answers : List Answer
  pub plain : Plain
  pub served : Served (start_of plan) plan.rows before.disk after.disk status script answers acks journal plain
  pub written : IsWritten status before answers after acks
  -- each reply stands in the sink before the source is asked for more than its line needs
  pub in_time : AsksInTime before.source before.sink before.asks (replies_of (parsed_lines script) answers) after.asks

-- The first lines of the input were answered, each within the limits. Where the source doesn't tell its bytes, some lines were.
pub record Ran (plan : Plan) (before after : World) (status : Status) (lines : ℕ) (acks : List Ack) (journal : ℕ) : Type 0 where
  pub script : List (List ℕ)
  pub count : lines ≡ length script
  pub few : lines ≤ plan.lines
  pub fit : all_fit script ≡ true
  pub input : ReadsInput plan.lines before.source after.source status script
  pub answered : Answered plan before after status script acks journal

-- a run may not write where a store is to be opened, nor where one is to be made and is there
abbrev pub MayOnlyRead : Start → Image → Type 0
MayOnlyRead Open c = Unit {0}
MayOnlyRead New c = IsMade c.pages

-- What becomes of the disk where no store could be opened or made: a store that is there is only read, and one that was
-- to be made isn't begun where memory is wanting. A crash leaves what was there, or while a store is made no store or
-- an empty one.
pub record LosesNothing (start : Start) (entry now : View) (status : Status) : Type 0 where
  pub reads : IsTold entry → MayOnlyRead start entry.seen → ReadsOnly entry now
  pub unbegun : status ≡ statuses.Memory → ReadsOnly entry now
  pub since_entry : IsTold entry → (first : Origin) → Begins start first entry.seen → NothingPending entry → (c : Image)
      → now.crash_states_since entry.moment c → HoldsRun start first.journal (journal_len first.journal) c

-- The run ended before a line was read, and no store was opened: only the disk was asked.
pub record EndedEarly (start : Start) (before after : World) (status : Status) (lines : ℕ) (acks : List Ack) (journal : ℕ) : Type 0 where
  pub none : lines ≡ 0
  pub no_acks : acks ≡ []
  pub no_journal : journal ≡ 0
  pub streams : StreamsStay before after
  pub disk : LosesNothing start before.disk after.disk status

-- Nothing was read, written or asked.
pub record DidNothing (before after : World) (lines : ℕ) (acks : List Ack) (journal : ℕ) : Type 0 where
  pub none : lines ≡ 0
  pub no_acks : acks ≡ []
  pub no_journal : journal ≡ 0
  pub streams : StreamsStay before after
  pub disk : DiskStays before.disk after.disk
