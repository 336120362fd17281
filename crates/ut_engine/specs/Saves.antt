-- What the calls of a savepoint do to it and to the files, before a plain state is spoken of.
use Rattle.std.specs.Prelude.{ℕ, ◌≡◌, ◌<◌, ◌⊎◌, ◌+◌, ◌-◌, Option, None, Some, true, length}
use Rattle.std.specs.Option.{option_map}
use Rattle.ut_outside.specs.Disk.{View}
use Rattle.ut_outside.specs.Run.{ReadsOnly}
use Rattle.ut_redo.specs.Appends.{LogPlace}
use Rattle.ut_redo.specs.Logs.{switched_place}
use Rattle.ut_plain.specs.Journal.{Journal}
use Rattle.ut_plain.specs.Capture.{Directory}
use Rattle.ut_plain.specs.Plain.{Plain, Writing, Sealed}
use Rattle.ut_plain.specs.View.{captured_now}
use Rattle.ut_pages.specs.declared.root.Root.{Root}
use Rattle.ut_pages.specs.Layout.{other}
use Rattle.ut_durable.specs.Calls.{BecomesReady, Flips, Moves, MayMove}
use Rattle.ut_durable.specs.Journals.{log_file, place_of}
use Rattle.ut_durable.specs.Saving.{Saving, IsStored}
use Rattle.ut_savepoint.specs.Planning.{TakesLeast, AreChains}
use Rattle.ut_store.specs.Stands.{StandsFor}
use Rattle.ut_engine.specs.Logged.{Logged}

-- ---- pages

-- so many pages more are written
abbrev pub more : ℕ → Saving → Saving
more count s = record s { done = s.done + count }

-- how many aren't yet
abbrev pub pages_left : Option Saving → ℕ
pages_left None = 0
pages_left (Some s) = length s.planned - s.done

-- The savepoint in memory writes its pages.
pub record MayGoOn (e : Logged) (disk : View) : Type 0 where
  pub saving : Saving
  pub under_way : e.saving ≡ Some saving
  pub journal : Journal
  pub selected : Root
  pub directory : Directory
  pub captured : ℕ
  pub done : ℕ
  pub pages : ℕ
  pub image : Directory
  pub stored : IsStored journal e.files selected directory (Some saving) (Writing captured done pages image) disk

-- So many pages more are written, whatever was known of the files.
pub record Goes (count : ℕ) (old : Logged) (before : View) (new : Logged) (after : View) : Type 0 where
  pub same : new ≡ record old { saving = option_map (more count) old.saving }
  pub stored : (j : Journal) (selected : Root) (d : Directory) (s : Saving) (b n q : ℕ) (c : Directory) → old.saving ≡ Some s
      → IsStored j old.files selected d (Some s) (Writing b n q c) before
      → IsStored j old.files selected d (Some (more count s)) (Writing b (n + count) q c) after

-- ---- the root

-- the savepoint, whose root is written
abbrev pub with_root : Saving → Saving
with_root s = record s { sealed = true }

-- the root is written
pub record Seals (old : Logged) (before : View) (new : Logged) (after : View) : Type 0 where
  pub same : new ≡ record old { saving = option_map with_root old.saving }
  pub ready : (s : Saving) → old.saving ≡ Some s → BecomesReady s.root old.files before after

-- The savepoint's root is written and may be selected.
pub record MaySelect (e : Logged) (disk : View) : Type 0 where
  pub saving : Saving
  pub under_way : e.saving ≡ Some saving
  pub journal : Journal
  pub selected : Root
  pub directory : Directory
  pub captured : ℕ
  pub pages : ℕ
  pub image : Directory
  pub stored : IsStored journal e.files selected directory (Some saving) (Sealed captured pages image) disk

-- it is selected, and has so many entries
pub record SelectsRoot (s : Saving) (old : Logged) (before : View) (entries : ℕ) (new : Logged) (after : View) : Type 0 where
  pub entries_of : entries ≡ s.root.length
  pub same : new ≡ record old { files = record old.files { slot = other old.files.slot; reached = s.reached }; begins = log_file s.root.file; saving = None }
  pub flips : Flips s.reached old.files new.files before after

-- ---- the log

-- the place of the log once it isn't in the file in which the selected root's log begins
pub record IsLeft (e : Logged) (place : LogPlace) : Type 0 where
  pub moved : e.files.log.file ≡ e.begins → place ≡ switched_place e.files.log
  pub stays : (e.files.log.file ≡ e.begins → ⊥) → place ≡ e.files.log

-- The log left that file, or stood in the other one already.
pub data LeavesLog (old : Logged) (before : View) (new : Logged) (after : View) : Type 0 where
  Moved : old.files.log.file ≡ old.begins
      → new ≡ record old { files = record old.files { log = switched_place old.files.log } }
      → Moves old.files new.files before after → LeavesLog old before new after
  Stayed : (old.files.log.file ≡ old.begins → ⊥) → new ≡ old → ReadsOnly before after → LeavesLog old before new after

-- what it does to the disk on the way
abbrev pub MayLeaveLog : Logged → View → View → Type 0
MayLeaveLog old before after = ((old.files.log.file ≡ old.begins) × MayMove old.files before after) ⊎ ReadsOnly before after

-- the root of what a store holds now, whose image isn't known yet
pub record IsCapturedRoot (e : Logged) (root : Root) : Type 0 where
  pub version : root.version ≡ 2
  pub length_of : root.length ≡ e.store.counts.entries
  pub commits : root.commits ≡ e.store.counts.commits
  pub merges : root.merges ≡ e.store.counts.merges
  pub next : root.next ≡ e.next.next
  pub place : IsLeft e (place_of root)
  pub file : root.file < 2
  pub no_image : (root.image_len ≡ 0) × (root.first_page ≡ 0)

-- ---- the beginning

-- The savepoint that has begun has so many pages, the least that the selected root doesn't reach.
-- On them stand the chains of the parts that were captured, in order, and then the directory's.
pub record HasPlanned (old : Logged) (saving : Option Saving) (pages : ℕ) : Type 0 where
  pub begun : Saving
  pub held : saving ≡ Some begun
  pub count : length begun.planned ≡ pages
  pub takes : TakesLeast old.files.reached begun
  pub chains : (p : Plain) → StandsFor old.store p → AreChains (captured_now p) begun
