-- Ascending words, and what they are after one more.
use Rattle.std.specs.Prelude.{◌≡◌, ℕ, ◌<◌, List, [], length, get_or, Option, Some, None}
use Rattle.ut_unsorted.specs.FirstSeen.{note}

-- each has eight bytes
abbrev pub AreWords : List (List ℕ) → Type 0
AreWords words = (i : ℕ) → i < length words → length (get_or words i []) ≡ 8

-- with the word, where it has a place
abbrev pub risen : Option ℕ → List (List ℕ) → List ℕ → List (List ℕ)
risen (Some code) words word = note words word
risen None words word = words
