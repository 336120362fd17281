-- What a map of codes has to hold.
use Rattle.std.specs.Prelude.{ℕ, ◌<◌, List, ◌++◌, length, map, get_or, Option, None, Some}
use Rattle.std.specs.List.{range_with_len}

-- an entry is a new code below reach
abbrev pub IsBelow : ℕ → Option ℕ → Type 0
IsBelow reach (Some code) = code < reach
IsBelow reach None = ⊥

-- each code has an entry, below reach
abbrev pub HaveEntries : List (Option ℕ) → ℕ → List ℕ → Type 0
HaveEntries entries reach codes =
    (i : ℕ) → i < length codes
    → (get_or codes i 0 < length entries) × IsBelow reach (get_or entries (get_or codes i 0) None)

-- the entries of all codes, the first of which, so many, stay as they are
abbrev pub with_staying : ℕ → List (Option ℕ) → List (Option ℕ)
with_staying first entries = map Some (range_with_len 0 first) ++ entries
