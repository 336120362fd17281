-- How far a store is from a plain state, by lines that were answered one after the other.
use Rattle.std.specs.Prelude.{ℕ, ◌≡◌, true, List}
use Rattle.ut_outside.specs.Disk.{View, IsTold}
use Rattle.ut_outside.specs.Faults.{Rose}
use Rattle.ut_outside.specs.declared.ack.Ack.{Ack}
use Rattle.ut_plain.specs.declared.statement.Parsed.{Parsed}
use Rattle.ut_plain.specs.Plain.{Plain}
use Rattle.ut_plain.specs.Transcript.{Answer}
use Rattle.ut_engine.specs.Logged.{Logged}
use Rattle.ut_engine.specs.Runs.{Runs}
use Rattle.ut_course.specs.Telling.{Tells, AnswersToFault}
use Rattle.ut_course.specs.Keeping.{Holding, lengths_of}

-- The store runs from the state after the lines, and no fault of the disk was counted, or the disk failed at the last of them.
pub data Course (p : Plain) (before : View) (lines : List Parsed) (answers : List Answer) (acks : List Ack) (now : View) (store : Logged) : Type 0 where
  Goes : (q : Plain) → Runs store now q → Tells p lines answers (lengths_of acks) q → now.faults ≡ before.faults
      → (IsTold before → Holding before now p.journal q.journal acks) → Course p before lines answers acks now store
  Failed : (journal : ℕ) (q : Plain) → store.down ≡ true → AnswersToFault p lines answers (lengths_of acks) journal q
      → Rose before.faults now.faults → (IsTold before → Holding before now p.journal q.journal acks)
      → Course p before lines answers acks now store
