-- Sums that were gathered by code, and the places of the codes among them.
use Rattle.std.specs.Prelude.{ℕ, zero, suc, ◌≡◌, ◌+◌, ◌*◌, ◌<◌, ◌≤◌, ℤ, pos, neg_ℤ, ◌+ℤ◌, ◌≤ℤ◌, List, [], ◌∷◌, length, map, get_or, slice_get, All}
use Rattle.ut_value.specs.declared.value.Value.{Value}
use Rattle.ut_plain.specs.declared.reply.Group as group
use Rattle.ut_staged.specs.Staged.{Staged}
use Rattle.ut_table.specs.Coded.{coded_values}
use Rattle.ut_ops.specs.Tally.{added, tallies}

-- the key of a sum
abbrev pub key_in : group.Group → Value
key_in g = g.key

-- a key and its sum
abbrev pub entry_in : group.Group → Value × ℤ
entry_in g = (g.key, g.sum)

-- the sum of at most n numbers of 64 bits
pub record IsWithin (n : ℕ) (g : group.Group) : Type 0 where
  pub low : neg_ℤ (pos (9223372036854775808 * n)) ≤ℤ g.sum
  pub high : g.sum ≤ℤ pos (9223372036854775808 * n)

-- at most n sums, each of at most n numbers
pub record AreFew (n : ℕ) (sums : List group.Group) : Type 0 where
  pub count : length sums ≤ n
  pub small : All (IsWithin n) sums

-- a mark is one more than the place of a sum, whose key has the code
pub record AreMarks (s : Staged) (column : ℕ) (marks : List ℕ) (sums : List group.Group) : Type 0 where
  pub each : (code place : ℕ) → get_or marks code 0 ≡ suc place → (place < length sums) × (slice_get (map key_in sums) place ≡ slice_get (coded_values s column) code)

-- the sums with these keys and numbers, one after the other
abbrev pub added_all : List (Value × ℤ) → List (Value × ℤ) → List (Value × ℤ)
added_all [] sums = sums
added_all (x ∷ xs) sums = added_all xs (added x.0 x.1 sums)

-- the sums with a number more in one of them
abbrev pub more_at : ℕ → ℤ → List group.Group → List group.Group
more_at i number [] = []
more_at zero number (g ∷ gs) = record { key = g.key; sum = number +ℤ g.sum } ∷ gs
more_at (suc i) number (g ∷ gs) = g ∷ more_at i number gs

-- the sums and their marks, where a number of a key came to the old ones
pub record Adds (s : Staged) (column : ℕ) (key : Value) (number : ℤ) (old : List group.Group) (marks : List ℕ) (sums : List group.Group) : Type 0 where
  pub told : tallies (map entry_in sums) ≡ added key number (tallies (map entry_in old))
  pub marked : AreMarks s column marks sums
  pub few : (n : ℕ) → AreFew n old → AreFew (n + 1) sums
