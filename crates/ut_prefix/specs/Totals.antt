-- Keys as numbers, and sums of these.
use Rattle.std.specs.Prelude.{◌≡◌, ℕ, ◌*◌, nat_eq, cond, ℤ, pos, neg_ℤ, ◌+ℤ◌, ◌-ℤ◌, ◌*ℤ◌, ◌≤ℤ◌, List, [], ◌∷◌, length}
use Rattle.std.specs.Int.{w64, from_be_bytes}

-- the number whose key these bytes are: eight, the highest first, the sign bit flipped; 0 of those that are no number's key
abbrev pub key_number : List ℕ → ℤ
key_number key = cond (nat_eq (length key) 8) (pos (from_be_bytes w64 key) -ℤ pos 9223372036854775808) (pos 0)

-- the sum of the numbers of keys
abbrev pub key_total : List (List ℕ) → ℤ
key_total [] = pos 0
key_total (key ∷ keys) = key_number key +ℤ key_total keys

-- the sum of the numbers of keys, each times what its weight gives; weights with no key, and keys with no weight, add nothing
abbrev pub summed : (ℕ → ℤ) → List ℕ → List (List ℕ) → ℤ
summed times [] keys = pos 0
summed times (weight ∷ weights) [] = pos 0
summed times (weight ∷ weights) (key ∷ keys) = (times weight *ℤ key_number key) +ℤ summed times weights keys

-- the sum of the numbers of keys, each times its weight
abbrev pub weighed : List ℕ → List (List ℕ) → ℤ
weighed weights keys = summed (λ weight. pos weight) weights keys

-- the sum of the numbers of keys, each times what its weight is above the usual one
abbrev pub weighed_above : ℕ → List ℕ → List (List ℕ) → ℤ
weighed_above usual weights keys = summed (λ weight. pos weight -ℤ pos usual) weights keys

-- a number whose size is at most so many times a size
pub record IsWithin (size times : ℕ) (number : ℤ) : Type 0 where
  pub low : neg_ℤ (pos (size * times)) ≤ℤ number
  pub high : number ≤ℤ pos (size * times)

-- the sum of keys' numbers, each of 64 bits
pub record IsTotal (keys : List (List ℕ)) (total : ℤ) : Type 0 where
  pub sum : total ≡ key_total keys
  pub within : IsWithin 9223372036854775808 (length keys) total
