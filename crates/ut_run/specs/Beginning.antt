-- How a run begins: the store is made or opened.
use Rattle.std.specs.Prelude.{ℕ, ◌≡◌, []}
use Rattle.ut_outside.specs.Disk.{View, IsTold}
use Rattle.ut_outside.specs.Faults.{Rose}
use Rattle.ut_engine.specs.declared.error.OpenError.{OpenError}
use Rattle.ut_engine.specs.declared.error.OpenError.TheVariants as errors
use Rattle.ut_engine.specs.Logged.{Logged}
use Rattle.ut_engine.specs.Runs.{Runs}
use Rattle.ut_run.specs.declared.start.Start.{Start}
use Rattle.ut_run.specs.declared.report.Status.{Status}
use Rattle.ut_run.specs.declared.report.Status.TheVariants.{NoStore, Exists, DiskFault, Damaged, Memory}
use Rattle.ut_run.specs.Origin.{Origin, opened, Begins}
use Rattle.ut_run.specs.Keeping.{Kept}
use Rattle.ut_run.specs.Serving.{LosesNothing}
use Rattle.ut_run.specs.Ends.{FitsStore, IsEarly}

-- the store runs from what it was opened with, for so many rows at most, and nothing was lost on the way
pub record Begun (start : Start) (rows : ℕ) (entry now : View) (store : Logged) : Type 0 where
  pub first : Origin
  pub runs : Runs store now (opened first rows)
  pub begins : IsTold entry → Begins start first entry.seen
  pub kept : IsTold entry → Kept start entry now first.journal first.journal []
  -- a fault that was counted is told
  pub no_fault : now.faults ≡ entry.faults

-- why it doesn't, and that nothing was lost
pub record NotBegun (start : Start) (entry now : View) (status : Status) : Type 0 where
  pub early : IsEarly status
  pub fits : IsTold entry → FitsStore status start entry.seen
  pub cause : status ≡ DiskFault → Rose entry.faults now.faults
  pub disk : LosesNothing start entry now status

-- the status of an error
abbrev pub OpenStatus : OpenError → Status → Type 0
OpenStatus errors.Made status = status ≡ Exists
OpenStatus errors.NotMade status = status ≡ NoStore
OpenStatus errors.Damaged status = status ≡ Damaged
OpenStatus errors.Disk status = status ≡ DiskFault
OpenStatus errors.Memory status = status ≡ Memory
