-- When the rows of all tables are those of a plain state.
use Rattle.std.specs.Prelude.{ℕ, ◌<◌, ◌≡◌, cond, nat_eq, List, map, length, Option, None, Some, slice_get}
use Rattle.ut_plain.specs.declared.table.Table.{Table}
use Rattle.ut_plain.specs.declared.stage.PendingMerge.{PendingMerge}
use Rattle.ut_plain.specs.Journal.{journal_len, current}
use Rattle.ut_plain.specs.Plain.{Plain, no_sessions}
use Rattle.ut_plain.specs.Reached.{IsPlain}
use Rattle.ut_stamps.specs.declared.fates.Fate.TheVariants.{Aborted}
use Rattle.ut_stamps.specs.Stamps.{fate_at}
use Rattle.ut_exact.specs.Stamped.{Stamped}
use Rattle.ut_exact.specs.Exact.{IsExact, AreOpen}
use Rattle.ut_exact.specs.Work.{AreFree}
use Rattle.ut_exact.specs.Gone.{IsGone}
use Rattle.ut_exact.specs.Dropped.{AreDropped}
use Rattle.ut_exact.specs.Places.{dead_number, AreHeld}
use Rattle.ut_staged.specs.Staged.{Staged, stages_of}
use Rattle.ut_staged.specs.Tables.{place_at}
use Rattle.ut_tables.specs.declared.restored.Restored.{Restored}
use Rattle.ut_tables.specs.Rows.{Rows}

-- the merge of the table at a place, where it is the pending one
abbrev pub merge_at : Option PendingMerge → ℕ → Option PendingMerge
merge_at None n = None
merge_at (Some m) n = cond (nat_eq n m.table) (Some m) None

-- each table has the pending merge where that is of this table
abbrev pub AreMerging : Option PendingMerge → List (Option PendingMerge) → Type 0
AreMerging pending merges = (n : ℕ) (merge : Option PendingMerge) → slice_get merges n ≡ Some merge → merge ≡ merge_at pending n

-- The places hold the rows of the plain state, each with an exact stamp. The ids from the next one on are free, and each session
-- with a transaction has this number.
pub record AreRows (r : Rows) (next_id : ℕ) (pending : Option PendingMerge) (numbers : ℕ → ℕ) (p : Plain) : Type 0 where
  -- the row of each id
  pub held : ℕ → Option Stamped
  pub places : AreHeld (place_at r.staged) (IsGone r.fates p.sessions) held
  -- what a pending merge gives up is nobody's or gone
  pub dropped : AreDropped p.stages (IsGone r.fates p.sessions) held
  pub free : AreFree held next_id
  pub exact : IsExact r.fates held p.journal p.opening
  pub transactions : AreOpen r.fates held p.sessions numbers p.journal p.opening
  -- the transaction of the places that are nobody's never commits
  pub dead : fate_at r.fates dead_number ≡ Aborted
  pub started : dead_number < length r.fates
  pub stages : p.stages ≡ map stages_of r.staged
  -- each table's stages have its columns
  pub columns : map (λ (s : Staged). s.columns) r.staged ≡ map (λ (t : Table). t.columns) r.tables
  pub merging : AreMerging pending (map (λ (s : Staged). s.merge) r.staged)

-- The rows are those of a plain state whose journal has so many entries.
pub record AreRowsOf (r : Rows) (entries : ℕ) (p : Plain) : Type 0 where
  pub plain : IsPlain p
  pub tables : r.tables ≡ (current p.journal).tables
  pub length_is : entries ≡ journal_len p.journal
  pub next_id : ℕ
  pub pending : Option PendingMerge
  pub numbers : ℕ → ℕ
  pub rows : AreRows r next_id pending numbers p

-- The rows are those of a plain state in which nobody has a transaction and no merge is pending, and so are the counts.
pub record Opens (r : Restored) (p : Plain) : Type 0 where
  pub plain : IsPlain p
  pub tables : r.rows.rows.tables ≡ (current p.journal).tables
  pub commits : r.commits ≡ (current p.journal).commits
  pub merges : r.merges ≡ (current p.journal).merges
  pub entries : r.entries ≡ journal_len p.journal
  pub next_id : r.next_id ≡ p.next_id
  pub idle : p.pending ≡ None
  pub alone : p.sessions ≡ no_sessions
  pub rows : (numbers : ℕ → ℕ) → AreRows r.rows.rows r.next_id None numbers p
