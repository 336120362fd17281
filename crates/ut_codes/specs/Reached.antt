-- What a code vector is seen as.
use Rattle.std.specs.Prelude.{ℕ, List}

-- codes, and the number of codes that there are to choose from
pub record Reached : Type 0 where
  pub reach : ℕ
  pub codes : List ℕ
