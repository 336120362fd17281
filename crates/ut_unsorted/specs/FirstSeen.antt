-- The different keys of a column, in the order in which they were first seen.
use Rattle.std.specs.Prelude.{ℕ, Bool, nat_eq, List, [], ◌∷◌, ◌++◌, if◌then◌else◌, fold, map, get_or}
use Rattle.std.specs.Cmp.Lexicographic.{pointwise}
use Rattle.std.specs.List.{list_any}

-- whether two keys are the same
abbrev pub key_eq : List ℕ → List ℕ → Bool
key_eq = pointwise nat_eq

-- the different keys, and then k where it is new
abbrev pub note : List (List ℕ) → List ℕ → List (List ℕ)
note ks k = if list_any (key_eq k) ks then ks else ks ++ k ∷ []

-- the different keys of a column, in first-seen order
abbrev pub first_seen : List (List ℕ) → List (List ℕ)
first_seen cells = fold note [] cells

-- the keys of these codes
abbrev pub keys_at : List (List ℕ) → List ℕ → List (List ℕ)
keys_at keys codes = map (λ code. get_or keys code []) codes
