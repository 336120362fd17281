-- What is true of a hall on its ground.
use base.Fml.{GName}
use Rattle.std.specs.Prelude.{ℕ, ◌≡◌, ◌≤◌, List, Option, None, Some}
use Rattle.ut_outside.specs.Disk.{View, Image, IsTold}
use Rattle.ut_plain.specs.Plain.{Plain}
use Rattle.ut_merge.specs.Jobs.{JobValue}
use Rattle.ut_store.specs.Jobs.{pending_job}
use Rattle.ut_engine.specs.Logged.{Logged}
use Rattle.ut_engine.specs.Runs.{Runs}
use Rattle.ut_course.specs.Course.{Course}
use Rattle.ut_crowd.specs.declared.book.Begun.{Begun}
use Rattle.ut_crowd.specs.declared.book.Turn.{Turn}
use Rattle.ut_crowd.specs.Ground.{Ground}
use Rattle.ut_crowd.specs.Book.{lines_in, answers_in, acks_in}
use Rattle.ut_crowd.specs.Asking.{AsksFrom, begun_first, begun_in}
use Rattle.ut_crowd.specs.Dating.{AreInOrder, AreTimely}
use Rattle.ut_crowd.specs.Queues.{Weaves}

-- a job that a hall has is that of the pending merge, of a store whose disk failed too
abbrev pub IsHeld : Option JobValue → Logged → Type 0
IsHeld None store = Unit {0}
IsHeld (Some job) store = pending_job store.store ≡ Some job

-- between two turns: the book and the queues have all lines, and the store has gone through the book
pub record StandsOn
    (g : Ground) (queues : List (List (List ℕ))) (book : List Turn) (name : GName) (now : View) (store : Logged)
    (job : Option JobValue) (l1 : ℕ) (last : Begun) : Type 0 where
  pub weaves : Weaves g.lines queues book
  -- some plain state is where it began, and from each such one the store has gone through the book
  pub some : (p : Plain) × g.from p
  pub course : (p : Plain) → g.from p → Course p g.disk (lines_in book) (answers_in book) (acks_in book) now store
  -- what the store asked is what it may ask, and the last savepoint that began is the book's
  pub asks : (p : Plain) → g.from p → AsksFrom g.l1 p book
  pub last_is : (p : Plain) → g.from p → last ≡ begun_in (begun_first p) book
  pub l1_is : l1 ≡ g.l1
  pub range : (1 ≤ l1) × (l1 ≤ 1048576)
  pub told : now.told ≡ g.disk.told
  pub faults : g.disk.faults ≤ now.faults
  -- no turn's moment is before that of the turn before it,
  pub ordered : IsTold g.disk → AreInOrder book
  -- nor past the next entry of the log
  pub timely : IsTold g.disk → AreTimely now book
  pub loan : g.loan ≡ Some name
  pub held : IsHeld job store

-- nothing was answered yet
pub record Starts (g : Ground) (lines : List (List ℕ)) (name : GName) (now : View) (store : Logged) (l1 : ℕ) : Type 0 where
  pub lines_are : g.lines ≡ lines
  pub l1_is : l1 ≡ g.l1
  pub range : (1 ≤ l1) × (l1 ≤ 1048576)
  -- the disk is as the ground has it
  pub told : now.told ≡ g.disk.told
  pub moment : now.moment ≡ g.disk.moment
  pub faults : now.faults ≡ g.disk.faults
  pub since : (t : ℕ) (c : Image) → now.crash_states_since t c → g.disk.crash_states_since t c
  pub keeps : (t : ℕ) (c : Image) → g.disk.crash_states_since t c → now.crash_states_since t c
  pub some : (p : Plain) × g.from p
  pub runs : (p : Plain) → g.from p → Runs store now p
  pub loan : g.loan ≡ Some name
