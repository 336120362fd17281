-- What a crowd came to.
use Rattle.std.specs.Prelude.{ℕ, ◌≡◌, ◌≤◌, ◌⊎◌, Bool, List, IsTrue}
use Rattle.ut_outside.specs.Disk.{View, IsTold}
use Rattle.ut_plain.specs.Plain.{Plain}
use Rattle.ut_engine.specs.Logged.{Logged}
use Rattle.ut_engine.specs.Runs.{Runs}
use Rattle.ut_course.specs.Course.{Course}
use Rattle.ut_crowd.specs.declared.book.Turn.{Turn}
use Rattle.ut_crowd.specs.Book.{lines_in, answers_in, acks_in}
use Rattle.ut_crowd.specs.Queues.{Weaves, HasAnswered}
use Rattle.ut_crowd.specs.Asking.{AsksFrom}
use Rattle.ut_crowd.specs.Dating.{AreInOrder, AreTimely}

-- A store and its disk, before these lines and after them, and the book of what was answered.
-- Where not all lines were, there was no memory for a turn, or the disk failed.
pub record Crowded
    (store : Logged) (disk : View) (l1 : ℕ) (lines : List (List ℕ)) (book : List Turn) (all stopped : Bool) (new : Logged)
    (now : View) : Type 0 where
  pub queues : List (List (List ℕ))
  pub weaves : Weaves lines queues book
  -- whatever plain state the store ran from, it has gone through the book
  pub course : (p : Plain) → Runs store disk p → Course p disk (lines_in book) (answers_in book) (acks_in book) now new
  -- and what the store asked of its own accord is what it may ask there
  pub asks : (p : Plain) → Runs store disk p → AsksFrom l1 p book
  -- no turn's moment is before that of the turn before it,
  pub ordered : IsTold disk → AreInOrder book
  -- nor past the next entry of the log
  pub timely : IsTold disk → AreTimely now book
  pub told : now.told ≡ disk.told
  pub faults : disk.faults ≤ now.faults
  pub answered : IsTrue all → HasAnswered lines book
  pub cause : IsTrue all ⊎ IsTrue stopped ⊎ IsTrue new.down
