-- The places of a job's lists: of its parts, and behind them of the closed stage.
use Rattle.std.specs.Prelude.{ℕ, ◌<◌, ◌≤◌, nat_lt, if◌then◌else◌, List, [], ◌∷◌, ◌++◌, length, map, get_or}
use Rattle.std.specs.List.{range_with_len}
use Rattle.ut_l2.specs.KeyRows.{KeyRow}
use Rattle.ut_merge.specs.declared.old.Old.{Old}
use Rattle.ut_merge.specs.declared.old.Old.TheVariants.{Part, Closed}
use Rattle.ut_merge.specs.Jobs.{JobValue, part_places, stay_of}

-- the rows of a list
abbrev pub list_at : JobValue → ℕ → List KeyRow
list_at job list = get_or (job.parts ++ job.closed ∷ []) list []

-- a place of a list, where there are so many parts
abbrev pub old_in : ℕ → ℕ → ℕ → Old
old_in parts list i = if nat_lt list parts then Part list i else Closed i

-- all places of a list
abbrev pub places_in_list : JobValue → ℕ → List Old
places_in_list job list = map (old_in (length job.parts) list) (range_with_len 0 (length (list_at job list)))

-- the places of all lists
abbrev pub old_lists : JobValue → List (List Old)
old_lists job = part_places 0 job.parts ++ map Closed (range_with_len 0 (length job.closed)) ∷ []

-- a place of the lists that are rebuilt
abbrev pub IsOld : JobValue → Old → Type 0
IsOld job (Part p i) = (stay_of job ≤ p) × (p < length job.parts) × (i < length (get_or job.parts p []))
IsOld job (Closed i) = i < length job.closed
