use Rattle.std.proofs.Common.{◌≡◌, ◌≢◌, ◌+◌, ◌-◌, ◌*◌, ◌^◌, ◌<◌, ◌≤◌, ℕ, List, length, get_or, []}
use Rattle.std.specs.declared.cmp.Ordering.TheVariants.{Greater}
use Rattle.ut_key.specs.Keys.{key_cmp}
use Rattle.ut_prefix.specs.Reading.{keys_of}
use Rattle.ut_prefix.proofs.search.search_starts.Given as goal

-- the search stands between two blocks
pub record IsBetween (keys : List (List ℕ)) (blocks : ℕ) (key : List ℕ) (low high before now : ℕ) : Type 0 where
  pub ordered : low ≤ high
  pub within : high ≤ blocks
  pub under : 0 < low → key_cmp (get_or keys (16 * (low - 1)) []) key ≢ Greater
  pub over : high < blocks → key_cmp (get_or keys (16 * high) []) key ≡ Greater
  pub cost : (digits : ℕ) → blocks < 2 ^ digits → (left : ℕ) × (high - low < 2 ^ left) × (now + left ≤ before + digits)

abbrev pub invariant-loop-low : goal.invariant-loop-low
invariant-loop-low g l = IsBetween (keys_of l.starts l.len l.bytes) (length l.starts) l.key l.low l.high l.initial.steps l.steps

abbrev pub decreases-loop-low : goal.decreases-loop-low
decreases-loop-low g l = l.high - l.low
