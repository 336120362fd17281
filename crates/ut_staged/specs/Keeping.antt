-- Which places a merge keeps, told by the stamps of their rows.
use Rattle.std.specs.Prelude.{ℕ, ◌<◌, ◌≢◌, Bool, true, List, [], ◌∷◌, ◌++◌, length, map, take, drop, get_or}
use Rattle.ut_value.specs.declared.entry.MergeKind.{MergeKind}
use Rattle.ut_plain.specs.Merges.{staying, rebuilt, flagged_all}
use Rattle.ut_stamps.specs.declared.fates.Fate.{Fate}
use Rattle.ut_stamps.specs.Kept.{stamp_keeps}
use Rattle.ut_exact.specs.Places.{StagedRow}
use Rattle.ut_staged.specs.Staged.{Staged, no_row}

-- a part that stays keeps all
abbrev pub all_of : List StagedRow → List Bool
all_of rows = map (λ (row : StagedRow). true) rows

-- of a list that is merged, a place is kept where the stamp of its row says so
abbrev pub needed_of : List Fate → List ℕ → List StagedRow → List Bool
needed_of fates snapshots rows = map (λ (row : StagedRow). stamp_keeps fates snapshots row.stamp) rows

-- the places of main and of the second stage that a merge keeps which begins now, with these snapshots open
abbrev pub stamp_flags : List Fate → List ℕ → MergeKind → Staged → List (List Bool)
stamp_flags fates snapshots kind s =
    map all_of (take (staying kind (length s.parts)) (s.parts ++ s.l2 ∷ []))
    ++ map (needed_of fates snapshots) (drop (staying kind (length s.parts)) (s.parts ++ s.l2 ∷ []))

-- the rows that a merge takes over which begins with these flags, in their old order
abbrev pub taken_over : MergeKind → List (List Bool) → Staged → List StagedRow
taken_over kind keep s = flagged_all (rebuilt kind s.parts s.l2) (drop (staying kind (length s.parts)) keep)

-- no two rows have one id
abbrev pub HaveOwnIds : List StagedRow → Type 0
HaveOwnIds rows = (i k : ℕ) → i < k → k < length rows → (get_or rows i no_row).id ≢ (get_or rows k no_row).id
