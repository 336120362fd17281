-- Why a run ends before its next line.
use Rattle.std.specs.Prelude.{ℕ, ◌≡◌, Bool, false, List, Option, Result, Ok, Err}
use Rattle.std.specs.Bool.{MatchBool}
use Rattle.ut_outside.specs.Faults.{Rose}
use Rattle.ut_script.specs.declared.lines.LineError.{LineError}
use Rattle.ut_script.specs.declared.lines.LineError.TheVariants as errors
use Rattle.ut_script.specs.Lines.{Reading, NextLine}
use Rattle.ut_run.specs.declared.report.Status.{Status}
use Rattle.ut_run.specs.declared.report.Status.TheVariants.{Done, ReadFault, Memory, TooLong}

-- Done at the end of the input, where no fault was counted, ReadFault where the source failed, TooLong where the next line is past the limits, Memory for want of it
abbrev pub NoLine : Status → Reading → Option (List ℕ) → ℕ → Reading → Option (List ℕ) → ℕ → Type 0
NoLine Done old left reads new left_now reads_now = NextLine old left (Ok false) new left_now × (reads_now ≡ reads)
NoLine ReadFault old left reads new left_now reads_now = Rose reads reads_now
NoLine TooLong old left reads new left_now reads_now = NextLine old left (Err errors.TooLong) new left_now
NoLine Memory old left reads new left_now reads_now = Unit {0}
NoLine _ old left reads new left_now reads_now = ⊥

-- what an answer of the reader says: the run goes on, or why it ends
abbrev pub GoesOn : Result Bool LineError → Result (Unit {0}) Status → Type 0
GoesOn (Ok more) result = MatchBool more (result ≡ Ok tt) (result ≡ Err Done)
GoesOn (Err errors.Read) result = result ≡ Err ReadFault
GoesOn (Err errors.TooLong) result = result ≡ Err TooLong
