-- How far a savepoint is, and which reply the answer to a call of one tells.
use Rattle.std.specs.Prelude.{ℕ, ◌≡◌, ◌<◌, ◌≤◌, ◌^◌, Bool, true, false, cond, length, Option, None, Some, Result, Ok, Err}
use Rattle.ut_plain.specs.declared.stage.Progress.{Progress}
use Rattle.ut_plain.specs.declared.stage.Progress.TheVariants as steps
use Rattle.ut_plain.specs.declared.statement.Statement.{Statement}
use Rattle.ut_plain.specs.declared.reply.Reply.{Reply}
use Rattle.ut_plain.specs.declared.reply.Reply.TheVariants as replies
use Rattle.ut_plain.specs.declared.reply.Refusal.TheVariants as refusals
use Rattle.ut_plain.specs.declared.reply.Why.{Why}
use Rattle.ut_plain.specs.Capture.{Directory}
use Rattle.ut_plain.specs.Progress.{phase_of}
use Rattle.ut_plain.specs.Refusals.{save_why}
use Rattle.ut_durable.specs.Saving.{Saving}
use Rattle.ut_engine.specs.declared.error.SaveError.{SaveError}
use Rattle.ut_engine.specs.declared.error.SaveError.TheVariants as begins
use Rattle.ut_engine.specs.declared.error.PhaseError.{PhaseError}
use Rattle.ut_engine.specs.declared.error.PhaseError.TheVariants as phases

-- how far the savepoint in memory is
abbrev pub progress_of : Option Saving → Progress
progress_of None = steps.Idle
progress_of (Some s) = cond s.sealed (steps.Sealed (length s.planned)) (steps.Writing s.done (length s.planned))

-- what is told of it
abbrev pub told_of : Progress → Reply
told_of steps.Idle = replies.Done
told_of (steps.Writing done pages) = replies.Saving done pages
told_of (steps.Sealed pages) = replies.Sealed pages

-- its pages can be counted
abbrev pub IsCounted : Option Saving → Type 0
IsCounted None = Unit {0}
IsCounted (Some s) = (s.sealed ≡ false → s.done ≤ length s.planned) × (length s.planned < 2 ^ 32)

-- ---- whether it is the turn of a statement of it

-- It isn't, whatever was captured, and the reply says why.
pub record IsOutOfTurn (saving : Option Saving) (st : Statement) (reply : Reply) : Type 0 where
  pub why : Why
  pub says : reply ≡ replies.Refused (refusals.State why)
  pub each : (captured : ℕ) (image : Directory) → save_why (phase_of (progress_of saving) captured image) st ≡ Some why

-- It is.
abbrev pub IsInTurn : Option Saving → Statement → Type 0
IsInTurn saving st = (captured : ℕ) (image : Directory) → save_why (phase_of (progress_of saving) captured image) st ≡ None

-- ---- the reply that an answer tells

-- to the begin of a savepoint: the number of its pages
abbrev pub save_reply : Result ℕ SaveError → Reply
save_reply (Ok pages) = replies.Saving 0 pages
save_reply (Err (begins.State why)) = replies.Refused (refusals.State why)
save_reply (Err begins.Full) = replies.Refused refusals.Full
save_reply (Err begins.Memory) = replies.Refused refusals.Memory
save_reply (Err begins.Disk) = replies.DiskFault

-- to a call that isn't one's turn, or in which the disk failed
abbrev pub error_reply : PhaseError → Reply
error_reply (phases.State why) = replies.Refused (refusals.State why)
error_reply phases.Disk = replies.DiskFault

-- to a page, to the root and to a drop: how far the savepoint is then
abbrev pub phase_reply : {T : Type 0} → Result T PhaseError → Option Saving → Reply
phase_reply (Ok done) saving = told_of (progress_of saving)
phase_reply (Err e) saving = error_reply e

-- to a flip: how many entries the selected root has
abbrev pub flip_reply : Result ℕ PhaseError → Reply
flip_reply (Ok entries) = replies.Root entries
flip_reply (Err e) = error_reply e

-- ---- whether the disk failed

-- whether the disk failed in the begin of a savepoint
abbrev pub is_save_fault : {T : Type 0} → Result T SaveError → Bool
is_save_fault (Err begins.Disk) = true
is_save_fault answer = false

-- whether the disk failed in a later call of one
abbrev pub is_phase_fault : {T : Type 0} → Result T PhaseError → Bool
is_phase_fault (Err phases.Disk) = true
is_phase_fault answer = false
