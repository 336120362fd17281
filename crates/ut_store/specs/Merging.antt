-- What a merge into main makes of the store: its begin and its end.
use Rattle.std.specs.Prelude.{ℕ, ◌+◌, Bool, ◌&&◌, nat_lt, length, List, None, Some, slice_set}
use Rattle.ut_value.specs.declared.entry.MergeKind.{MergeKind}
use Rattle.ut_value.specs.declared.entry.Entry.TheVariants as entries
use Rattle.ut_value.specs.Spelling.{spelling}
use Rattle.ut_plain.specs.declared.stage.PendingMerge.{PendingMerge}
use Rattle.ut_plain.specs.Merges.{staying}
use Rattle.ut_stamps.specs.declared.place.Place.{Place}
use Rattle.ut_staged.specs.Staged.{Staged, closed_l2, switched}
use Rattle.ut_tables.specs.Merging as merges
use Rattle.ut_txn.specs.Seats.{snapshots_of}
use Rattle.ut_store.specs.Held.{Held}

-- the merge of the table at a place that would begin next
abbrev pub next_merge : Held → ℕ → MergeKind → PendingMerge
next_merge e n kind = record { number = e.counts.merges + 1; table = n; kind = kind }

-- the places of the table that it keeps, by the snapshots that are open
abbrev pub flags_now : Held → MergeKind → Staged → List (List Bool)
flags_now e kind s = merges.flags_now e.rows (snapshots_of e.seats) kind s

-- A merge of the table at place n, which has these stages, began: its second stage is closed, it is fixed which places
-- are kept, and the frame spells the entry that says so.
abbrev pub merge_begun : Held → ℕ → MergeKind → Staged → Held
merge_begun e n kind s = record e {
  rows = record e.rows { staged = slice_set e.rows.staged n (closed_l2 (next_merge e n kind) (flags_now e kind s) s) };
  counts = record e.counts { merges = e.counts.merges + 1; entries = e.counts.entries + 1; pending = Some (next_merge e n kind) };
  frame = spelling (entries.Begun (e.counts.merges + 1) n kind);
}

-- The pending merge of the table with these stages ended: the parts that it rebuilds and the closed stage are one part
-- of the rows that stood in these places.
abbrev pub merge_ended : Held → PendingMerge → Staged → List Place → Held
merge_ended e m s olds = record e {
  rows = record e.rows { staged = slice_set e.rows.staged m.table (switched (staying m.kind (length s.parts)) olds s) };
  counts = record e.counts { entries = e.counts.entries + 1; pending = None };
  frame = spelling (entries.Ended m.number);
}

-- whether the journal, and the main of a table with these stages, have room for a merge
abbrev pub has_room_to_merge : Held → Staged → MergeKind → Bool
has_room_to_merge e s kind = nat_lt e.counts.entries 1073741823 && merges.has_room_to_merge s kind

-- A merge of the table at a place may begin.
abbrev pub MayMerge : Held → ℕ → MergeKind → Type 0
MayMerge e n kind = merges.MayMerge e.rows (snapshots_of e.seats) n kind
