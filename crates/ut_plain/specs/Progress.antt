-- How far a savepoint is, as a program knows it that keeps no directory as plain data.
use Rattle.std.specs.Prelude.{ℕ}
use Rattle.ut_plain.specs.declared.stage.Progress.{Progress}
use Rattle.ut_plain.specs.declared.stage.Progress.TheVariants as steps
use Rattle.ut_plain.specs.Capture.{Directory}
use Rattle.ut_plain.specs.Plain.{Phase, Idle, Writing, Sealed}

-- the phase of a savepoint of this captured length and directory
abbrev pub phase_of : Progress → ℕ → Directory → Phase
phase_of steps.Idle captured image = Idle
phase_of (steps.Writing done pages) captured image = Writing captured done pages image
phase_of (steps.Sealed pages) captured image = Sealed captured pages image
