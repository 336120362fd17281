-- Runs as they are kept: each with its code and the place behind its last row.
use Rattle.std.specs.Prelude.{ℕ, ◌-◌, ◌<◌, List, [], ◌∷◌}
use Rattle.ut_rle.specs.declared.run.Run.{Run}

-- the code and the length of each run, the first of which begins at a place
abbrev pub lengths_from : ℕ → List Run → List (ℕ × ℕ)
lengths_from at [] = []
lengths_from at (r ∷ rs) = (r.code, r.end - at) ∷ lengths_from r.end rs

-- the place behind the last run, where the first begins at a place
abbrev pub end_from : ℕ → List Run → ℕ
end_from at [] = at
end_from at (r ∷ rs) = end_from r.end rs

-- each run ends behind the one before it, the first behind a place
abbrev pub Ascend : ℕ → List Run → Type 0
Ascend at [] = Unit {0}
Ascend at (r ∷ rs) = (at < r.end) × Ascend r.end rs
