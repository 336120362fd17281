-- How often a code stands in a list of codes, and which one stands most often.
use Rattle.std.specs.Prelude.{◌≡◌, ℕ, ◌≤◌, ◌==◌, nat_lt, min, if◌then◌else◌, List, [], ◌∷◌}
use Rattle.std.specs.List.{count_by}

-- how often a code stands in a list
abbrev pub count_of : ℕ → List ℕ → ℕ
count_of c codes = count_by (λ d. d == c) codes

-- the one of two codes that stands more often in a list, the smaller on a tie
abbrev pub more_frequent : List ℕ → ℕ → ℕ → ℕ
more_frequent all a b =
    if nat_lt (count_of a all) (count_of b all) then b
    else (if nat_lt (count_of b all) (count_of a all) then a else min a b)

-- the one of some codes that stands most often in a list
abbrev pub most_frequent_of : List ℕ → List ℕ → ℕ
most_frequent_of all [] = 0
most_frequent_of all (c ∷ cs) = more_frequent all c (most_frequent_of all cs)

-- the code that stands most often in a list, the smallest of those; 0 in an empty list
unfoldable pub most_frequent : List ℕ → ℕ
most_frequent codes = most_frequent_of codes codes

-- no code stands more often than this one, and none that is smaller as often
abbrev pub IsMostFrequent : List ℕ → ℕ → Type 0
IsMostFrequent codes c = (d : ℕ) → (count_of d codes ≤ count_of c codes) × (count_of d codes ≡ count_of c codes → c ≤ d)
