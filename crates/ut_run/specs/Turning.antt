-- What becomes of a line: it is answered, the answer is acknowledged, and written.
use Rattle.std.specs.Prelude.{ℕ, ◌≡◌, ◌≤◌, List, [], ◌∷◌, ◌++◌, Option, Result, Ok, Err, OnOk, IsErrOf}
use Rattle.ut_outside.specs.Disk.{View}
use Rattle.ut_outside.specs.Faults.{Rose}
use Rattle.ut_outside.specs.declared.ack.Ack.{Ack}
use Rattle.ut_outside.specs.declared.faults.Failed.{Failed}
use Rattle.ut_plain.specs.declared.statement.Parsed.{Parsed}
use Rattle.ut_plain.specs.Journal.{journal_len}
use Rattle.ut_plain.specs.Plain.{Plain}
use Rattle.ut_plain.specs.Transcript.{Answer, AnswersLine, Faults}
use Rattle.ut_engine.specs.Logged.{Logged}
use Rattle.ut_engine.specs.Runs.{Runs}
use Rattle.ut_run.specs.declared.report.Status.{Status}
use Rattle.ut_run.specs.declared.report.Status.TheVariants.{WriteFault, DiskFault}
use Rattle.ut_run.specs.declared.turn.TurnEnd.{TurnEnd}
use Rattle.ut_run.specs.declared.turn.TurnEnd.TheVariants as ends
use Rattle.ut_run.specs.Writing.{answer_text, Writes}
use Rattle.ut_course.specs.Keeping.{Keeps}

-- what a sink holds, and the moments of its bytes
pub record Sunk : Type 0 where
  pub held : Option (List ℕ)
  pub marks : List ℕ

-- the acknowledgements so far, and the length of the journal
pub record Noted : Type 0 where
  pub acks : List Ack
  pub journal : ℕ

-- one acknowledgement more
abbrev pub with_ack : Noted → ℕ → ℕ → Noted
with_ack n journal moment = record { acks = n.acks ++ record { journal = journal; moment = moment } ∷ []; journal = journal }

-- what becomes of a line from a plain state
pub data LineOutcome (p : Plain) (line : Parsed) (before : View) (notes : Noted) (sink : Sunk) (result : Result (Unit {0}) TurnEnd) (new : Logged) (after : View) (notes_now : Noted) (sink_now : Sunk) : Type 0 where
  -- a comment
  Quiet : (q : Plain) → result ≡ Ok tt → AnswersLine p line [] q → Runs new after q → Keeps before after q.journal (journal_len p.journal)
      → notes_now ≡ record { acks = notes.acks; journal = journal_len q.journal } → sink_now ≡ sink
      → LineOutcome p line before notes sink result new after notes_now sink_now
  -- answered, and the answer is written
  Told : (a : Answer) (q : Plain) → result ≡ Ok tt → AnswersLine p line (a ∷ []) q → Runs new after q
      → Keeps before after q.journal (journal_len p.journal)
      → notes_now ≡ with_ack notes (journal_len q.journal) after.moment
      → Writes {T = Unit {0}} {E = Failed} sink.held sink.marks (answer_text a) after.moment (Ok tt) sink_now.held sink_now.marks
      → LineOutcome p line before notes sink result new after notes_now sink_now
  -- answered, and the sink failed
  Unwritten : (a : Answer) (q : Plain) (e : Failed) → result ≡ Err ends.Write → AnswersLine p line (a ∷ []) q
      → Runs new after q → Keeps before after q.journal (journal_len p.journal)
      → notes_now ≡ with_ack notes (journal_len q.journal) after.moment
      → Writes {T = Unit {0}} {E = Failed} sink.held sink.marks (answer_text a) after.moment (Err e) sink_now.held sink_now.marks
      → LineOutcome p line before notes sink result new after notes_now sink_now
  -- the disk failed, and the answer that says so is written
  Lost : (a : Answer) (q : Plain) → result ≡ Err ends.Disk → Faults p line (a ∷ []) q → Keeps before after q.journal (journal_len p.journal)
      → notes_now ≡ with_ack notes (journal_len p.journal) after.moment
      → Writes {T = Unit {0}} {E = Failed} sink.held sink.marks (answer_text a) after.moment (Ok tt) sink_now.held sink_now.marks
      → LineOutcome p line before notes sink result new after notes_now sink_now
  -- the disk failed, and then the sink
  LostUnwritten : (a : Answer) (q : Plain) (e : Failed) → result ≡ Err ends.Write → Faults p line (a ∷ []) q
      → Keeps before after q.journal (journal_len p.journal) → Rose before.faults after.faults
      → notes_now ≡ with_ack notes (journal_len p.journal) after.moment
      → Writes {T = Unit {0}} {E = Failed} sink.held sink.marks (answer_text a) after.moment (Err e) sink_now.held sink_now.marks
      → LineOutcome p line before notes sink result new after notes_now sink_now

-- whatever plain state the store ran from
pub record Turns
    (old : Logged) (before : View) (line : Parsed) (notes : Noted) (sink : Sunk) (result : Result (Unit {0}) TurnEnd)
    (new : Logged) (after : View) (notes_now : Noted) (sink_now : Sunk) : Type 0 where
  pub each : (p : Plain) → Runs old before p → LineOutcome p line before notes sink result new after notes_now sink_now

-- the faults of disk and sink that a result speaks of: neither count rose where the run goes on
pub record TurnCauses (before after : View) (writes writes_now : ℕ) (result : Result (Unit {0}) TurnEnd) : Type 0 where
  pub told : after.told ≡ before.told
  pub no_fewer : before.faults ≤ after.faults
  pub no_fewer_writes : writes ≤ writes_now
  pub disk : IsErrOf result ends.Disk → Rose before.faults after.faults
  pub write : IsErrOf result ends.Write → Rose writes writes_now
  pub still : OnOk result ((after.faults ≡ before.faults) × (writes_now ≡ writes))

-- the status of a run that ends at a line
abbrev pub EndStatus : TurnEnd → Status → Type 0
EndStatus ends.Disk status = status ≡ DiskFault
EndStatus ends.Write status = status ≡ WriteFault
