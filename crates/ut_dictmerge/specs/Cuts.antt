-- Where two ascending key lists can be cut into pieces.
use Rattle.std.specs.Prelude.{◌≡◌, ◌⊎◌, ℕ, ◌+◌, ◌-◌, ◌*◌, ◌/◌, ◌≤◌, ◌<◌, List, [], length, get_or}
use Rattle.std.specs.declared.cmp.Ordering.TheVariants.{Less}
use Rattle.ut_key.specs.Keys.{key_cmp}
use Rattle.ut_dictmerge.specs.declared.cut.Cut.{Cut}

-- each key in front of the two places is below each key behind them, of either list
pub record IsCut (a b : List (List ℕ)) (i j : ℕ) : Type 0 where
  pub first : i ≤ length a
  pub second : j ≤ length b
  pub below_b : (p q : ℕ) → p < i → j ≤ q → q < length b → key_cmp (get_or a p []) (get_or b q []) ≡ Less
  pub below_a : (p q : ℕ) → q < j → i ≤ p → p < length a → key_cmp (get_or b q []) (get_or a p []) ≡ Less

-- the last keys in front of the two places are equal, so that no cut stands one key earlier
pub record EndsInPair (a b : List (List ℕ)) (i j : ℕ) : Type 0 where
  pub first : 0 < i
  pub second : 0 < j
  pub same : get_or a (i - 1) [] ≡ get_or b (j - 1) []

-- the cut behind so many of all keys, or behind one more where that would part two equal keys
pub record IsCutBehind (a b : List (List ℕ)) (keys i j : ℕ) : Type 0 where
  pub cut : IsCut a b i j
  pub place : (i + j ≡ keys) ⊎ ((i + j ≡ keys + 1) × EndsInPair a b i j)

-- the cut of a number
abbrev pub cut_at : List Cut → ℕ → Cut
cut_at cuts k = get_or cuts k record { a = 0; b = 0 }

-- the cuts of two lists into pieces, the first cut counted as 0
pub record AreCuts (a b : List (List ℕ)) (pieces : ℕ) (cuts : List Cut) : Type 0 where
  pub count : length cuts ≡ pieces + 1
  pub first : ((cut_at cuts 0).a ≡ 0) × ((cut_at cuts 0).b ≡ 0)
  pub last : ((cut_at cuts pieces).a ≡ length a) × ((cut_at cuts pieces).b ≡ length b)
  pub rising : (k : ℕ) → k < pieces → ((cut_at cuts k).a ≤ (cut_at cuts (k + 1)).a) × ((cut_at cuts k).b ≤ (cut_at cuts (k + 1)).b)
  pub each : (k : ℕ) → k ≤ pieces → IsCutBehind a b (k * (length a + length b) / pieces) (cut_at cuts k).a (cut_at cuts k).b
  pub even : (k : ℕ) → k < pieces
      → (cut_at cuts (k + 1)).a + (cut_at cuts (k + 1)).b
      ≤ (cut_at cuts k).a + (cut_at cuts k).b + (length a + length b + pieces - 1) / pieces + 1
