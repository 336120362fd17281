-- The places of a list whose elements pass a test.
use Rattle.std.specs.Prelude.{ℕ, ◌+◌, Bool, ◌&&◌, nat_le, nat_lt, if◌then◌else◌, List, [], ◌∷◌}
use Rattle.std.specs.List.{list_any}

-- the places whose element passes, counted from i, ascending
abbrev pub places_from : {X : Type 0} → (X → Bool) → ℕ → List X → List ℕ
places_from test i [] = []
places_from test i (x ∷ xs) = if test x then i ∷ places_from test (i + 1) xs else places_from test (i + 1) xs

-- the places, from 0 on, whose element passes a test, ascending
abbrev pub places_where : {X : Type 0} → (X → Bool) → List X → List ℕ
places_where test xs = places_from test 0 xs

-- whether a code stands in one of the ranges, each without its end
abbrev pub is_in : List (ℕ × ℕ) → ℕ → Bool
is_in ranges code = list_any (λ r. nat_le r.0 code && nat_lt code r.1) ranges
