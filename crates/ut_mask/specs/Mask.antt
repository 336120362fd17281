-- Masks as lists of truth values, and the words of 64 bits that hold them.
use Rattle.std.specs.Prelude.{◌≡◌, ℕ, zero, suc, ◌+◌, ◌-◌, ◌/◌, ◌%◌, ◌^◌, ◌<◌, ◌≤◌, ◌==◌, Bool, true, false, ◌&&◌, List, [], ◌∷◌, length, drop, replicate, slice_index_or}
use Rattle.std.specs.List.{flat_map}
use Rattle.std.specs.Simd.Lanes.{zip2}

-- the places that stand in both of two masks
abbrev pub both : List Bool → List Bool → List Bool
both = zip2 (λ a b. a && b)

-- a mask whose first places stand only where they stand in another mask too
abbrev pub kept : List Bool → List Bool → List Bool
kept [] bs = []
kept (m ∷ ms) [] = m ∷ ms
kept (m ∷ ms) (b ∷ bs) = (m && b) ∷ kept ms bs

-- the same from a place on: what stands before it stays
abbrev pub kept_from : ℕ → List Bool → List Bool → List Bool
kept_from zero ms bs = kept ms bs
kept_from (suc i) [] bs = []
kept_from (suc i) (m ∷ ms) bs = m ∷ kept_from i ms bs

-- the lowest n binary digits of a number, the lowest first: whether each is 1
abbrev pub bits_of : ℕ → ℕ → List Bool
bits_of zero x = []
bits_of (suc n) x = (x % 2 == 1) ∷ bits_of n (x / 2)

-- the digits of a word
unfoldable pub word_bits : ℕ → List Bool
word_bits w = bits_of 64 w

-- the digits of words, one word behind the other
abbrev pub words_bits : List ℕ → List Bool
words_bits ws = flat_map word_bits ws

-- words that hold a mask of so many places: behind the last place all digits are 0
pub record IsMask (len : ℕ) (words : List ℕ) : Type 0 where
  pub few : len ≤ 2 ^ 31
  pub count : length words ≡ len / 64 + 1
  pub rest : drop len (words_bits words) ≡ replicate (64 - len % 64) false

-- a place is the first one from another on that stands
pub record IsNext (mask : List Bool) (from at : ℕ) : Type 0 where
  pub behind : from ≤ at
  pub within : at < length mask
  pub stands : slice_index_or mask at false ≡ true
  pub first : (j : ℕ) → from ≤ j → j < at → slice_index_or mask j false ≡ false
