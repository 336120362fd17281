-- Which places a merge keeps, by lists of their rows' stamps.
use Rattle.std.specs.Prelude.{ℕ, Bool, true, List, ◌++◌, map, take, drop}
use Rattle.ut_stamps.specs.declared.fates.Fate.{Fate}
use Rattle.ut_stamps.specs.declared.visibility.Stamp.{Stamp}
use Rattle.ut_stamps.specs.Kept.{stamp_keeps}

-- the first lists, so many, keep all, the others the rows that somebody needs
abbrev pub flags_behind : List Fate → List ℕ → ℕ → List (List Stamp) → List (List Bool)
flags_behind fates snapshots stay lists = map (map (λ (stamp : Stamp). true)) (take stay lists) ++ map (map (stamp_keeps fates snapshots)) (drop stay lists)
