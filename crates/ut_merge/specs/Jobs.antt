-- The data that a merge freezes, as contracts see them, and what it makes of them.
use Rattle.std.specs.Prelude.{◌≡◌, ◌≢◌, ℕ, suc, ◌+◌, ◌<◌, ◌≤◌, Bool, IsTrue, List, [], ◌∷◌, ◌++◌, length, map, take, drop, get_or}
use Rattle.std.specs.List.{range_with_len, sum_by}
use Rattle.std.specs.List.Sorted.{IsPermutation}
use Rattle.ut_value.specs.declared.entry.MergeKind.{MergeKind}
use Rattle.ut_value.specs.declared.entry.MergeKind.TheVariants.{Classic, Resort, Partial, Extend}
use Rattle.ut_plain.specs.declared.stage.PendingMerge.{PendingMerge}
use Rattle.ut_plain.specs.Merges.{staying, rebuilt, flagged_all, has_part_room}
use Rattle.ut_l2.specs.KeyRows.{KeyRow, no_row}
use Rattle.ut_main.specs.Parts.{MainValue}
use Rattle.ut_merge.specs.declared.old.Old.{Old}
use Rattle.ut_merge.specs.declared.old.Old.TheVariants.{Part, Closed}
use Rattle.ut_merge.specs.Resorting.{resorted}

-- a merge that was begun: its number, table and kind, how many columns there are, the rows of main's parts and of the closed stage, and a flag for each of them, by part and then for the closed stage
pub record JobValue : Type 0 where
  pub head : PendingMerge
  pub width : ℕ
  pub parts : List (List KeyRow)
  pub closed : List KeyRow
  pub keep : List (List Bool)

-- the job of main, closed rows and flags
abbrev pub job_value : PendingMerge → MainValue → List KeyRow → List (List Bool) → JobValue
job_value head main closed keep = record { head = head; width = main.width; parts = main.parts; closed = closed; keep = keep }

-- how many parts stay as they are
abbrev pub stay_of : JobValue → ℕ
stay_of job = staying job.head.kind (length job.parts)

-- what the new part takes over of lists that have an element for each place: the flagged ones of the parts that are rebuilt, and then of the closed stage
abbrev pub kept_of : {X : Type 0} → JobValue → List (List X) → List X → List X
kept_of job parts closed = flagged_all (rebuilt job.head.kind parts closed) (drop (stay_of job) job.keep)

-- ---- rows

-- the rows that are kept, in their old order
abbrev pub kept_rows : JobValue → List KeyRow
kept_rows job = kept_of job job.parts job.closed

-- rows in the order of a kind of merge
abbrev pub arranged : MergeKind → List KeyRow → List KeyRow
arranged Classic rows = rows
arranged Resort rows = resorted rows
arranged Partial rows = rows
arranged Extend rows = rows

-- the rows of the new part
abbrev pub new_rows : JobValue → List KeyRow
new_rows job = arranged job.head.kind (kept_rows job)

-- the rows of the parts behind the merge
abbrev pub merged_rows : JobValue → List (List KeyRow)
merged_rows job = take (stay_of job) job.parts ++ new_rows job ∷ []

-- main behind the merge
abbrev pub main_of : JobValue → MainValue
main_of job = record { width = job.width; parts = merged_rows job }

-- ---- places

-- the places of parts, the first of which has a number
abbrev pub part_places : ℕ → List (List KeyRow) → List (List Old)
part_places p [] = []
part_places p (rows ∷ parts) = map (Part p) (range_with_len 0 (length rows)) ∷ part_places (suc p) parts

-- the places that are kept, in their old order
abbrev pub kept_olds : JobValue → List Old
kept_olds job = kept_of job (part_places 0 job.parts) (map Closed (range_with_len 0 (length job.closed)))

-- the row at an old place
abbrev pub row_of : JobValue → Old → KeyRow
row_of job (Part p i) = get_or (get_or job.parts p []) i no_row
row_of job (Closed i) = get_or job.closed i no_row

-- ---- what a job keeps to

-- no two rows have one id
abbrev pub HaveOwnIds : List KeyRow → Type 0
HaveOwnIds rows = (i j : ℕ) → i < j → j < length rows → (get_or rows i no_row).id ≢ (get_or rows j no_row).id

-- a flag for each row, at most 2^31 - 1 rows together, room for the new part, and where rows are sorted they differ in id
pub record IsJob (job : JobValue) : Type 0 where
  pub flags : map length job.keep ≡ map length (job.parts ++ job.closed ∷ [])
  pub few : sum_by length job.parts + length job.closed ≤ 2147483647
  pub room : IsTrue (has_part_room job.head.kind (length job.parts))
  pub differ : job.head.kind ≡ Resort → HaveOwnIds (kept_rows job)

-- main behind the merge, and the old place of each row of the new part
pub record IsBuilt (job : JobValue) (main : MainValue) (olds : List Old) : Type 0 where
  pub main_is : main ≡ main_of job
  pub places : IsPermutation (kept_olds job) olds
  pub rows : map (row_of job) olds ≡ new_rows job
  -- only a re-sorting merge moves rows past one another
  pub in_place : job.head.kind ≢ Resort → olds ≡ kept_olds job
