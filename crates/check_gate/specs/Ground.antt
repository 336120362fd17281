-- What a run of the hall rests on.
use Rattle.std.specs.Prelude.{ℕ, List}

-- all lines of the run, and the disk's count of faults when it began
pub record Ground : Type 0 where
  pub lines : List ℕ
  pub faults : ℕ
