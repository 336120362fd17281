-- What a line comes to, whoever asked it.
use Rattle.std.specs.Prelude.{ℕ, ◌≡◌, ◌≤◌, Bool, true, false, nat_eq, if◌then◌else◌, [], ◌∷◌, Option, None, Some}
use Rattle.ut_outside.specs.Disk.{View}
use Rattle.ut_outside.specs.Faults.{Rose}
use Rattle.ut_plain.specs.declared.statement.Statement.{Statement}
use Rattle.ut_plain.specs.declared.statement.Statement.TheVariants.{MergeBegin, MergeEnd}
use Rattle.ut_plain.specs.declared.statement.Parsed.{Parsed}
use Rattle.ut_plain.specs.declared.statement.Parsed.TheVariants.{Comment, Stranger, Bad, Good}
use Rattle.ut_plain.specs.declared.reply.Reply.{Reply}
use Rattle.ut_plain.specs.declared.reply.Reply.TheVariants.{DiskFault}
use Rattle.ut_plain.specs.Journal.{journal_len}
use Rattle.ut_plain.specs.Plain.{Plain}
use Rattle.ut_plain.specs.Transcript.{AnswersLine, Faults}
use Rattle.ut_store.specs.Jobs.{pending_job}
use Rattle.ut_engine.specs.Logged.{Logged}
use Rattle.ut_engine.specs.Runs.{Runs}
use Rattle.ut_course.specs.Keeping.{Keeps}

-- ---- lines

-- the session that a line is of; a line whose session can't be read is nobody's
abbrev pub session_in : Parsed → Option ℕ
session_in Comment = None
session_in Stranger = None
session_in (Bad session) = Some session
session_in (Good session st) = Some session

-- whether that is this session
abbrev pub is_of : ℕ → Option ℕ → Bool
is_of session None = false
is_of session (Some n) = nat_eq n session

-- whether a line says a statement that the grammar knows
abbrev pub is_good : Parsed → Bool
is_good (Good session st) = true
is_good _ = false

-- whether a statement begins a merge or ends one
abbrev pub is_of_merge : Statement → Bool
is_of_merge (MergeBegin name kind) = true
is_of_merge MergeEnd = true
is_of_merge _ = false

-- whether a line asks for the begin of a merge or the end of one
abbrev pub asks_merge : Parsed → Bool
asks_merge (Good session st) = is_of_merge st
asks_merge _ = false

-- ---- what they come to

-- from a plain state: it is answered, or the disk failed
pub data Came (p : Plain) (line : Parsed) (who : Option ℕ) (before : View) (reply : Reply) (new : Logged) (after : View) : Type 0 where
  Answered : (q : Plain) → (reply ≡ DiskFault → ⊥) → AnswersLine p line (record { session = who; reply = reply } ∷ []) q
      → Runs new after q → Keeps before after q.journal (journal_len p.journal)
      → Came p line who before reply new after
  Lost : (q : Plain) → reply ≡ DiskFault → new.down ≡ true
      → Faults p line (record { session = who; reply = reply } ∷ []) q
      → Keeps before after q.journal (journal_len p.journal)
      → Came p line who before reply new after

-- the job of the pending merge stays, whether the disk failed or not, but where a merge begins or ends
abbrev pub KeepsJob : Parsed → Logged → Logged → Type 0
KeepsJob line old new = asks_merge line ≡ false → pending_job new.store ≡ pending_job old.store

-- whatever plain state the store ran from
pub record Comes
    (old : Logged) (before : View) (line : Parsed) (who : Option ℕ) (reply : Reply) (new : Logged)
    (after : View) : Type 0 where
  pub each : (p : Plain) → Runs old before p → Came p line who before reply new after
  pub job : (p : Plain) → Runs old before p → KeepsJob line old new
  pub told : after.told ≡ before.told
  pub later : before.faults ≤ after.faults
  pub cause : reply ≡ DiskFault → Rose before.faults after.faults
  -- a fault that was counted is told
  pub still : (reply ≡ DiskFault → ⊥) → after.faults ≡ before.faults

-- ---- the length that is acknowledged

-- whether a reply says that the disk failed
abbrev pub is_fault : Reply → Bool
is_fault DiskFault = true
is_fault _ = false

-- that before the line where the disk failed, else that after it
abbrev pub length_after : Reply → ℕ → ℕ → ℕ
length_after reply before after = if is_fault reply then before else after
