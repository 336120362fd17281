-- How the rows stand in the tables of the store.
use Rattle.std.specs.Prelude.{ℕ, ◌≡◌, ◌+◌, ◌<◌, ◌≤◌, true, false, max, List, [], length, map, slice_get, slice_set, IsTrue}
use Rattle.std.specs.Option.{unwrap_or}
use Rattle.ut_value.specs.declared.value.Row.{Row}
use Rattle.ut_value.specs.declared.entry.Entry.{Entry}
use Rattle.ut_plain.specs.Tables.{fits_columns}
use Rattle.ut_plain.specs.State.{State}
use Rattle.ut_plain.specs.Stages.{Stages}
use Rattle.ut_plain.specs.Capture.{Directory}
use Rattle.ut_plain.specs.Plain.{opened_store}
use Rattle.ut_plain.specs.Reached.{MayOpen}
use Rattle.ut_exact.specs.Places.{StagedRow}
use Rattle.ut_staged.specs.Staged.{Staged, no_rows, count_of, stamped_row, entered_l1}
use Rattle.ut_table.specs.Contents.{TableValue}
use Rattle.ut_table.specs.Filled.{restamped}
use Rattle.ut_tables.specs.declared.restored.Restored.{Restored}
use Rattle.ut_tables.specs.Rows.{restored}
use Rattle.ut_tables.specs.Standing.{Opens}
use Rattle.ut_restart.specs.declared.rows.Position.{Position}
use Rattle.ut_restart.specs.declared.replay.Replay.{Replay}
use Rattle.ut_restart.specs.Shown.{stamp_of}

-- the stages that tables show
abbrev pub shown : List TableValue → List Staged
shown tables = map (λ (t : TableValue). t.stages) tables

-- the stages of the table at a place
abbrev pub staged_at : List Staged → ℕ → Staged
staged_at staged n = unwrap_or (slice_get staged n) (no_rows [])

-- a row that an entry inserts, as it stands in its stage
abbrev pub live_row : Row → StagedRow
live_row row = stamped_row (stamp_of false) row

-- a row enters the first stage of a table
abbrev pub entered_in : List Staged → ℕ → Row → List Staged
entered_in staged n row = slice_set staged n (entered_l1 (live_row row) (staged_at staged n))

-- the row in a place is nobody's
abbrev pub buried_in : List Staged → Position → List Staged
buried_in staged at = slice_set staged at.table (restamped (stamp_of true) at.place (staged_at staged at.table))

-- the table is there, the row fits it, and it has room
pub record CanEnter (staged : List Staged) (n : ℕ) (row : Row) : Type 0 where
  pub there : n < length staged
  pub fits : IsTrue (fits_columns (staged_at staged n).columns row.values)
  pub few : count_of (staged_at staged n) < 2147483648

-- what was replayed
pub record Rebuilt (r : Replay) (x : Restored) : Type 0 where
  pub rows : x.rows.rows ≡ restored r.tables.items (shown r.rows.stages.items)
  pub next_id : x.next_id ≡ max r.rows.next (r.rows.load + 1)
  pub commits : x.commits ≡ r.commits
  pub merges : x.merges ≡ r.merges
  pub entries : x.entries ≡ r.entries

-- A store begins so with a journal that begins with this state, opened with the stages of an image.
pub record Reopens (s : State) (stages : Stages) (entries : List Entry) (x : Restored) : Type 0 where
  pub may : MayOpen stages (record { base = s; entries = entries })
  -- however many pages an image takes, and the selected root reaches, and whatever the limit of ids
  pub opens : (image_pages : Directory → ℕ) (root_pages rows_limit : ℕ)
      → rows_limit ≤ 2147483648 → Opens x (opened_store (record { stages = stages; image_pages = image_pages; root_pages = root_pages })
      (record { base = s; entries = entries }) rows_limit)
