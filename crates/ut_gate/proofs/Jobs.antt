-- What acts keep of a job, for those who write acts.
use Rattle.std.proofs.Common.{refl, sym, Some, None}
use Rattle.std.specs.Prelude.{Option}
use Rattle.ut_gate.specs.Turns.{MeetsJob, KeepsJob}

module _ {J : Type 0} where
  -- an act that leaves the job
  pub job_stays : (k slip : Option J) → MeetsJob k slip → KeepsJob k k slip slip
  job_stays None None meets = (tt, refl)
  job_stays None (Some j) meets = (tt, sym meets)
  job_stays (Some k) None meets = (refl, refl)
  job_stays (Some k) (Some j) meets = (tt, sym meets)
