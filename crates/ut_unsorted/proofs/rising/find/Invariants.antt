use Rattle.std.proofs.Common.{◌≡◌, ℕ, List, [], ◌+◌, ◌-◌, ◌^◌, ◌<◌, ◌≤◌, false, length, get_or}
use Rattle.std.specs.Int.{to_be_bytes, w64}
use Rattle.std.specs.Ordering.{is_lt}
use Rattle.std.specs.declared.cmp.Ordering.TheVariants.{Less}
use Rattle.ut_key.specs.Keys.{key_cmp}
use Rattle.ut_unsorted.proofs.rising.find.Given as goal

-- the search stands between two places
pub record IsBetween (words : List (List ℕ)) (key : List ℕ) (low high before now : ℕ) : Type 0 where
  pub ordered : low ≤ high
  pub within : high ≤ length words
  pub under : 0 < low → key_cmp (get_or words (low - 1) []) key ≡ Less
  pub over : high < length words → is_lt (key_cmp (get_or words high []) key) ≡ false
  pub cost : (digits : ℕ) → length words < 2 ^ digits → (left : ℕ) × (high - low < 2 ^ left) × (now + left ≤ before + digits)

abbrev pub invariant-loop-low : goal.invariant-loop-low
invariant-loop-low g l = IsBetween l.words (to_be_bytes w64 l.number) l.low l.high l.initial.steps l.steps

abbrev pub decreases-loop-low : goal.decreases-loop-low
decreases-loop-low g l = l.high - l.low
