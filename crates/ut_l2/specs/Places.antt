-- The places of a list at which a test passes.
use Rattle.std.specs.Prelude.{ℕ, ◌+◌, Bool, List, [], ◌∷◌, if◌then◌else◌}

-- counted from i, ascending
abbrev pub places_from : {X : Type 0} → (X → Bool) → ℕ → List X → List ℕ
places_from test i [] = []
places_from test i (x ∷ xs) = if test x then i ∷ places_from test (i + 1) xs else places_from test (i + 1) xs

-- counted from 0, ascending
abbrev pub places_where : {X : Type 0} → (X → Bool) → List X → List ℕ
places_where test xs = places_from test 0 xs
