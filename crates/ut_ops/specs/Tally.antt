-- Sums by key, as a map in the order of the keys.
use Rattle.std.specs.Prelude.{ℕ, ℤ, pos, ◌+ℤ◌, List, [], ◌∷◌, unwrap_or}
use Rattle.std.specs.FinMap.{find, put}
use Rattle.ut_value.specs.declared.value.Value.{Value}
use Rattle.ut_value.specs.KeyOrder.{value_cmp}
use Rattle.ut_plain.specs.Query.{number_of}
use Rattle.ut_plain.specs.declared.reply.Group as group
use Rattle.ut_scan.specs.declared.place.Found.{Found}
use Rattle.ut_staged.specs.Staged.{Staged}
use Rattle.ut_ops.specs.Fit.{cell}

-- the sum of a key so far
abbrev pub sum_of : Value → List (Value × ℤ) → ℤ
sum_of key sums = unwrap_or (find value_cmp key sums) (pos 0)

-- the sums with one more number of a key
abbrev pub added : Value → ℤ → List (Value × ℤ) → List (Value × ℤ)
added key number sums = put value_cmp key (number +ℤ sum_of key sums) sums

-- the sums of keys and numbers
abbrev pub tallies : List (Value × ℤ) → List (Value × ℤ)
tallies [] = []
tallies (x ∷ xs) = added x.0 x.1 (tallies xs)

-- the key and the number of a row that was found
abbrev pub entry_of : Staged → ℕ → ℕ → Found → Value × ℤ
entry_of s key sum f = (cell s key f, number_of (cell s sum f))

abbrev pub as_group : Value × ℤ → group.Group
as_group e = record { key = e.0; sum = e.1 }
