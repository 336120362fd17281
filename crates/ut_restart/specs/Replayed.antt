-- What an image comes to, and the entries of a log behind it.
use Rattle.std.specs.Prelude.{ℕ, ◌+◌, ◌≡◌, ◌≤◌, List, length, slice_get, Some, IsTrue}
use Rattle.std.specs.List.{sum_by}
use Rattle.std.specs.FinMap as finmap
use Rattle.ut_value.specs.declared.entry.Entry.{Entry}
use Rattle.ut_plain.specs.declared.table.Table.{Table}
use Rattle.ut_plain.specs.State.{State, suits, after, entry_inserts}
use Rattle.ut_plain.specs.Journal.{after_all, can_all}
use Rattle.ut_plain.specs.Stages.{Stages}
use Rattle.ut_plain.specs.Capture.{Directory}
use Rattle.ut_plain.specs.Restart.{replayed_entry, replayed}
use Rattle.ut_main.specs.Parts.{MainValue}
use Rattle.ut_image.specs.declared.drawn.Drawn.{Drawn}
use Rattle.ut_pages.specs.declared.root.Root.{Root}
use Rattle.ut_restart.specs.declared.replay.Replay.{Replay}
use Rattle.ut_restart.specs.Began.{BeginsWith}
use Rattle.ut_restart.specs.Applied.{AreSound, AreRows}

-- the present rows have their positions, no table is too wide, and the counts are no more than the entries
pub record IsReplay (r : Replay) : Type 0 where
  pub rows : AreSound r.tables.items r.rows
  pub narrow : (i : ℕ) (t : Table) → slice_get r.tables.items i ≡ Some t → length t.columns ≤ 64
  pub counts : r.commits + r.merges ≤ r.entries

-- the same state and the same stages
pub record Agrees (r : Replay) (s : State) (stages : Stages) : Type 0 where
  pub tables : r.tables.items ≡ s.tables
  pub rows : AreRows r.rows s.rows stages
  pub next : r.rows.next ≡ s.next
  pub commits : r.commits ≡ s.commits
  pub merges : r.merges ≡ s.merges
  pub entries : r.entries ≡ s.length

-- the state of an image, whichever it is
pub record IsFirst (root : Root) (tables : List Drawn) (mains : List MainValue) (r : Replay) : Type 0 where
  pub sound : IsReplay r
  pub entries : r.entries ≡ root.length
  pub agrees : (d : Directory) (s : State) → BeginsWith root tables mains d s → Agrees r s d.stages
  pub load : (d : Directory) (s : State) → BeginsWith root tables mains d s → r.rows.load ≡ finmap.len s.rows

-- the entry suits what stood before it, and was applied
pub record Followed (old : Replay) (entry : Entry) (new : Replay) : Type 0 where
  pub sound : IsReplay new
  pub count : new.entries ≡ old.entries + 1
  pub load : new.rows.load ≡ old.rows.load + entry_inserts entry
  pub suits_it : (s : State) (stages : Stages) → Agrees old s stages → IsTrue (suits s entry)
  pub agrees : (s : State) (stages : Stages) → Agrees old s stages → Agrees new (after s entry) (replayed_entry stages entry)

-- the entry does not suit what stood before it, or the load is above its limit
pub record Strange (old : Replay) (entry : Entry) : Type 0 where
  pub never : (s : State) (stages : Stages) → Agrees old s stages → IsTrue (suits s entry)
      → old.rows.load + entry_inserts entry ≤ 2147483648 → ⊥

-- the entries can be applied one behind the other, and this is what they come to
pub record Replayed (old : Replay) (es : List Entry) (new : Replay) : Type 0 where
  pub sound : IsReplay new
  pub count : new.entries ≡ old.entries + length es
  pub load : new.rows.load ≡ old.rows.load + sum_by entry_inserts es
  pub can : (s : State) (stages : Stages) → Agrees old s stages → IsTrue (can_all s es)
  pub agrees : (s : State) (stages : Stages) → Agrees old s stages → Agrees new (after_all s es) (replayed stages es)

-- they cannot, or the load is above its limit
pub record NoJournal (old : Replay) (es : List Entry) : Type 0 where
  pub never : (s : State) (stages : Stages) → Agrees old s stages → IsTrue (can_all s es)
      → old.rows.load + sum_by entry_inserts es ≤ 2147483648 → ⊥
