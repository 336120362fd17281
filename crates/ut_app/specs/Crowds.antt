-- What a run of the crowd comes to.
use Rattle.std.specs.Prelude.{ℕ, ◌≡◌, ◌≤◌, ◌⊎◌, Bool, true, false, if◌then◌else◌, List, [], ◌∷◌, ◌++◌, length, Option, Ok, Err}
use Rattle.ut_outside.specs.Disk.{View, IsTold}
use Rattle.ut_outside.specs.Faults.{Rose}
use Rattle.ut_outside.specs.declared.ack.Ack.{Ack}
use Rattle.ut_outside.specs.declared.faults.Failed.{Failed}
use Rattle.ut_plain.specs.Journal.{journal_len}
use Rattle.ut_plain.specs.Plain.{Plain}
use Rattle.ut_words.specs.declared.plan.Plan.{Plan}
use Rattle.ut_course.specs.Telling.{AnswersAll, AnswersToFault}
use Rattle.ut_course.specs.Keeping.{lengths_of}
use Rattle.ut_crowd.specs.declared.book.Turn.{Turn}
use Rattle.ut_crowd.specs.Book.{lines_in, answers_in, acks_in}
use Rattle.ut_crowd.specs.Queues.{Weaves, HasAnswered}
use Rattle.ut_crowd.specs.Asking.{AsksFrom}
use Rattle.ut_crowd.specs.Dating.{AreInOrder, AreTimely}
use Rattle.ut_crowd.specs.Texts.{book_text}
use Rattle.ut_run.specs.declared.report.Status.{Status}
use Rattle.ut_run.specs.declared.report.Status.TheVariants.{Done, Usage, ReadFault, WriteFault, DiskFault, Memory, TooLong}
use Rattle.ut_run.specs.World.{World, NoFault}
use Rattle.ut_run.specs.Plans.{start_of}
use Rattle.ut_run.specs.Script.{all_fit, FitsInput, ReadsInput}
use Rattle.ut_run.specs.Writing.{Writes}
use Rattle.ut_run.specs.Origin.{Origin, opened, Begins}
use Rattle.ut_run.specs.Keeping.{Kept, HoldsWhole}
use Rattle.ut_run.specs.Serving.{EndedEarly}
use Rattle.ut_app.specs.Benching.{Sinking, sink_of}
use Rattle.ut_run.specs.Ends.{FitsStore, HasRisen, IsEarly, IsComplete}

-- ---- reading

-- All lines were read, each within the limits.
pub record IsRead (limit : ℕ) (before after : Option (List ℕ)) (script : List (List ℕ)) : Type 0 where
  pub few : length script ≤ limit
  pub fit : all_fit script ≡ true
  pub input : ReadsInput limit before after Done script
  pub fits : FitsInput limit Done before

-- a status of a run in which no line of a session was answered
abbrev pub IsUnrun : Status → Type 0
IsUnrun ReadFault = Unit {0}
IsUnrun TooLong = Unit {0}
IsUnrun Memory = Unit {0}
IsUnrun _ = ⊥

-- why they weren't read
pub record IsUnread (limit : ℕ) (before : Option (List ℕ)) (status : Status) (reads reads_now : ℕ) : Type 0 where
  pub unrun : IsUnrun status
  pub fits : FitsInput limit status before
  pub cause : status ≡ ReadFault → Rose reads reads_now

-- ---- what is told

-- the text of the book was written
abbrev pub WritesBook : Sinking → List Turn → ℕ → Sinking → Type 0
WritesBook was book moment now =
    Writes {T = Unit {0}} {E = Failed} was.held was.marks (book_text book) moment (Ok tt) now.held now.marks

-- these are the first ones of those
abbrev pub IsFrontOf : List Ack → List Ack → Type 0
IsFrontOf all acks = (rest : List Ack) × (all ≡ acks ++ rest)

-- nothing was written, and the acknowledgements of the first turns are told
abbrev pub TellsFront : Sinking → List Turn → Sinking → List Ack → Type 0
TellsFront was book now acks = (now ≡ was) × IsFrontOf (acks_in book) acks

-- The text of the book was written, or where the sink failed a part of it, and each turn is an acknowledgement. Where memory was wanting
-- the sink was given nothing, and the acknowledgements of the first turns are told; so it is too where the disk failed as well.
abbrev pub TellsBook : Status → Sinking → List Turn → ℕ → Sinking → List Ack → Type 0
TellsBook Done was book moment now acks = WritesBook was book moment now × (acks ≡ acks_in book)
TellsBook DiskFault was book moment now acks =
    (WritesBook was book moment now × (acks ≡ acks_in book)) ⊎ TellsFront was book now acks
TellsBook WriteFault was book moment now acks =
    ((e : Failed) × Writes {T = Unit {0}} {E = Failed} was.held was.marks (book_text book) moment (Err e) now.held now.marks)
    × (acks ≡ acks_in book)
TellsBook _ was book moment now acks = TellsFront was book now acks

-- the length of the journal behind the last turn without a fault: the last turn carries it where the disk failed
abbrev pub last_journal : List Turn → ℕ
last_journal [] = 0
last_journal (t ∷ []) = t.journal
last_journal (t ∷ u ∷ book) = last_journal (u ∷ book)

-- the length of the journal that a run comes to: as its last turn says where the disk failed, else as the store does
abbrev pub last_length : (down : Bool) → (entries : ℕ) → List Turn → ℕ
last_length down entries book = if down then last_journal book else entries

-- the lines are counted where the text was written or its sink failed
abbrev pub TellsCount : Status → ℕ → ℕ → Type 0
TellsCount Done all lines = lines ≡ all
TellsCount WriteFault all lines = lines ≡ all
TellsCount _ all lines = lines ≡ 0

-- the disk failed, and the status says so, or that the sink failed too
abbrev pub IsFault : Status → Type 0
IsFault DiskFault = Unit {0}
IsFault WriteFault = Unit {0}
IsFault _ = ⊥

-- how a run ends whose turns were answered: all of them, unless there was no memory or the disk failed, which outranks
abbrev pub EndsBook : Status → (stopped down : Bool) → Type 0
EndsBook Done stopped down = (stopped ≡ false) × (down ≡ false)
EndsBook DiskFault stopped down = down ≡ true
EndsBook WriteFault stopped down = Unit {0}
EndsBook Memory stopped down = down ≡ false
EndsBook _ stopped down = ⊥

-- the status where there is no memory for the book
abbrev pub untold : (down : Bool) → Status
untold true = DiskFault
untold false = Memory

-- What a report and the sink say of a book.
pub record TellsEnd
    (stopped down : Bool) (book : List Turn) (all : ℕ) (was : Sinking) (moment : ℕ) (now : Sinking) (status : Status)
    (lines : ℕ) (acks : List Ack) : Type 0 where
  pub ends : EndsBook status stopped down
  pub told : TellsBook status was book moment now acks
  pub count : TellsCount status all lines
  pub cause : status ≡ WriteFault → Rose was.writes now.writes
  pub later : was.writes ≤ now.writes
  pub still : status ≡ Done → now.writes ≡ was.writes

-- ---- the run

-- No line of a session was answered: the store was made or opened, and nothing else.
pub record Unrun (plan : Plan) (before after : World) (lines : ℕ) (acks : List Ack) (journal : ℕ) : Type 0 where
  pub none : lines ≡ 0
  pub no_acks : acks ≡ []
  pub sink : sink_of after ≡ sink_of before
  pub first : Origin
  pub begins : IsTold before.disk → Begins (start_of plan) first before.disk.seen
  pub length_is : journal ≡ journal_len first.journal
  pub kept : IsTold before.disk → Kept (start_of plan) before.disk after.disk first.journal first.journal []
  -- a crash now leaves the whole journal, so a store that was made stays made
  pub stays : IsTold after.disk → HoldsWhole after.disk first.journal

-- The turns were answered to the last, and a crash now leaves the whole journal.
pub record AllAnswered (p : Plain) (book : List Turn) (journal : ℕ) (q : Plain) (now : View) : Type 0 where
  pub all : AnswersAll p (lines_in book) (answers_in book) (lengths_of (acks_in book)) journal q
  pub stays : IsTold now → HoldsWhole now q.journal

-- They were answered to one at which the disk failed.
pub record LastFaulted (p : Plain) (book : List Turn) (journal : ℕ) (q : Plain) (entry now : View) (status : Status) : Type 0 where
  pub cut : AnswersToFault p (lines_in book) (answers_in book) (lengths_of (acks_in book)) journal q
  pub says : IsFault status
  pub rose : Rose entry.faults now.faults

-- The book is a weave of these lines,
-- its turns are answered as the plain store answers them one after the other, and what was acknowledged is kept.
pub record Booked
    (plan : Plan) (entry now : View) (status : Status) (script : List (List ℕ)) (book : List Turn)
    (journal : ℕ) : Type 0 where
  pub queues : List (List (List ℕ))
  pub weaves : Weaves script queues book
  -- the journal at the entry, and what the store was opened with beside it
  pub first : Origin
  pub begins : IsTold entry → Begins (start_of plan) first entry.seen
  pub plain : Plain
  pub legal : AllAnswered (opened first plan.rows) book journal plain now
      ⊎ LastFaulted (opened first plan.rows) book journal plain entry now status
  -- what the store asked of its own accord is what it may ask in the state of that turn, with the plan's number of rows
  pub asks : AsksFrom plan.l1 (opened first plan.rows) book
  pub kept : IsTold entry → Kept (start_of plan) entry now first.journal plain.journal (acks_in book)
  -- no turn's moment is before that of the turn before it,
  pub ordered : IsTold entry → AreInOrder book
  -- nor past the next entry of the log
  pub timely : IsTold entry → AreTimely now book
  -- with Done each line of each session has its turn
  pub answered : status ≡ Done → HasAnswered script book

-- All lines were read, and turns were answered.
pub record RanCrowd (plan : Plan) (before after : World) (status : Status) (lines : ℕ) (acks : List Ack) (journal : ℕ) : Type 0 where
  pub script : List (List ℕ)
  pub read : IsRead plan.lines before.source after.source script
  pub book : List Turn
  pub booked : Booked plan before.disk after.disk status script book journal
  pub told : TellsBook status (sink_of before) book after.disk.moment (sink_of after) acks
  pub count : TellsCount status (length script) lines

-- a status of a run whose turns were answered
abbrev pub IsLate : Status → Type 0
IsLate Done = Unit {0}
IsLate WriteFault = Unit {0}
IsLate DiskFault = Unit {0}
IsLate Memory = Unit {0}
IsLate _ = ⊥

-- The run ended before the source was asked, or before a line of a session was answered, or turns were answered.
pub data CrowdEnd (plan : Plan) (before after : World) (status : Status) (lines : ℕ) (acks : List Ack) (journal : ℕ) : Type 0 where
  Early : IsEarly status → EndedEarly (start_of plan) before after status lines acks journal
      → CrowdEnd plan before after status lines acks journal
  Halted : IsUnrun status → Unrun plan before after lines acks journal → CrowdEnd plan before after status lines acks journal
  Late : IsLate status → RanCrowd plan before after status lines acks journal → CrowdEnd plan before after status lines acks journal

-- All that holds of a run of the crowd.
pub record CrowdRun (plan : Plan) (before after : World) (status : Status) (lines : ℕ) (acks : List Ack) (journal : ℕ) : Type 0 where
  -- what was answered, written and acknowledged, and what a crash leaves of it
  pub ended : CrowdEnd plan before after status lines acks journal
  -- NoStore, Exists and Damaged exactly where the files say so
  pub store : IsTold before.disk → FitsStore status (start_of plan) before.disk.seen
  -- TooLong only where the input is past the limits, and Done only where it isn't
  pub input : FitsInput plan.lines status before.source
  -- a fault only where its count rose
  pub cause : HasRisen status before after
  -- and a fault that was counted is told: Done only where no count rose
  pub still : status ≡ Done → NoFault before after
  pub taken : status ≡ Usage → ⊥
  -- where nothing is in the way, all is done, but for want of memory
  pub complete : IsComplete plan before after status
