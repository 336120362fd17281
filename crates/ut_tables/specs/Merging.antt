-- What a merge into main makes of the rows: its begin and its end.
use Rattle.std.specs.Prelude.{ℕ, ◌+◌, ◌≤◌, ◌≡◌, Bool, ◌&&◌, nat_lt, length, List, IsTrue, Option, None, Some, slice_get, slice_set}
use Rattle.std.specs.List.{sum_by}
use Rattle.std.specs.Option.{option_and_then}
use Rattle.ut_value.specs.declared.entry.MergeKind.{MergeKind}
use Rattle.ut_plain.specs.declared.stage.PendingMerge.{PendingMerge}
use Rattle.ut_plain.specs.Merges.{staying, has_part_room}
use Rattle.ut_stamps.specs.declared.place.Place.{Place}
use Rattle.ut_staged.specs.Staged.{Staged, closed_l2, switched}
use Rattle.ut_staged.specs.Keeping.{stamp_flags, taken_over, HaveOwnIds}
use Rattle.ut_staged.specs.Tables.{IsArranged}
use Rattle.ut_merge.specs.Jobs.{JobValue}
use Rattle.ut_table.specs.Pending.{pending_job}
use Rattle.ut_tables.specs.Rows.{Rows}

-- the places of a table that a merge keeps which begins now, with these snapshots open
abbrev pub flags_now : Rows → List ℕ → MergeKind → Staged → List (List Bool)
flags_now r snapshots kind s = stamp_flags r.fates snapshots kind s

-- the stages of a table whose merge begins now
abbrev pub closed_now : Rows → List ℕ → PendingMerge → Staged → Staged
closed_now r snapshots head s = closed_l2 head (flags_now r snapshots head.kind s) s

-- whether a table and its main have room for a merge
abbrev pub has_room_to_merge : Staged → MergeKind → Bool
has_room_to_merge s kind = nat_lt (sum_by length s.parts + length s.l2) 2147483648 && has_part_room kind (length s.parts)

-- A merge of the table at a place may begin.
pub record MayMerge (r : Rows) (snapshots : List ℕ) (n : ℕ) (kind : MergeKind) : Type 0 where
  pub table : Staged
  pub at : slice_get r.staged n ≡ Some table
  pub idle : table.merge ≡ None
  pub few : sum_by length table.parts + length table.l2 ≤ 2147483647
  pub room : IsTrue (has_part_room kind (length table.parts))
  pub own_ids : HaveOwnIds (taken_over kind (flags_now r snapshots kind table) table)

-- the job of the pending merge of the table at a place, if one is pending there
abbrev pub job_at : Rows → ℕ → Option JobValue
job_at r n = option_and_then pending_job (slice_get r.staged n)

-- The pending merge of the table at a place ended: what it rebuilds and the closed stage are one part of the rows
-- that stood in these places.
pub record Switched (old : Rows) (n : ℕ) (kind : MergeKind) (new : Rows) : Type 0 where
  pub table : Staged
  pub at : slice_get old.staged n ≡ Some table
  pub olds : List Place
  pub arranged : IsArranged kind table olds
  pub rows : new ≡ record old { staged = slice_set old.staged n (switched (staying kind (length table.parts)) olds table) }
