-- When a store runs, and what its files hold then.
use Rattle.std.specs.Prelude.{ℕ, ◌*◌, ◌≡◌, ◌≤◌, ◌⊎◌, List, length, false, Option, None, Some}
use Rattle.ut_outside.specs.Disk.{View, Image, IsTold}
use Rattle.ut_outside.specs.Run.{Always}
use Rattle.ut_redo.specs.Appends.{LogPlace}
use Rattle.ut_redo.specs.Logs.{IsLogFile}
use Rattle.ut_pages.specs.declared.root.Root.{Root}
use Rattle.ut_pages.specs.Layout.{IsMade, made_pages}
use Rattle.ut_plain.specs.Journal.{Journal, empty_journal, journal_len}
use Rattle.ut_plain.specs.Capture.{Directory}
use Rattle.ut_plain.specs.Plain.{Plain, Opening, no_image, new_store, opened_store}
use Rattle.ut_store.specs.Stands.{StandsFor}
use Rattle.ut_durable.specs.Bytes.{image_pages}
use Rattle.ut_durable.specs.Journals.{place_of, IsReading, HoldsJournal}
use Rattle.ut_durable.specs.Saving.{Saving, IsStored}
use Rattle.ut_engine.specs.Logged.{Logged}
use Rattle.ut_placed.specs.Placed.{HasRows}
use Rattle.ut_nextid.specs.NextIds.{Keeps}

-- the root of a savepoint reaches as many pages as it has
abbrev pub IsEven : Option Saving → Type 0
IsEven None = Unit {0}
IsEven (Some s) = length s.reached ≡ length s.planned

-- The store agrees with a plain state. Each outcome of a crash now holds the whole of its journal behind the selected root,
-- and the savepoint in memory is the phase's.
pub record Runs (e : Logged) (disk : View) (p : Plain) : Type 0 where
  pub up : e.down ≡ false
  pub stands : StandsFor e.store p
  -- the selected root and its directory
  pub root : Root
  pub directory : Directory
  pub stored : IsStored p.journal e.files root directory e.saving p.phase disk
  pub begins : e.begins ≡ (place_of root).file
  pub even : IsEven e.saving
  pub log : IsLogFile e.files.log.file
  pub short : e.files.log.end ≤ 2147483648 * journal_len p.journal
  -- how many pages an image takes, and how many the root reaches
  pub measure : p.image_pages ≡ image_pages
  pub reached : p.root_pages ≡ length e.files.reached
  -- each place, dead or live, holds a row of its table
  pub rows : HasRows p
  pub next : Keeps e.next p

-- a store that was made, where there was none; its page file is the one of a store without entries in each outcome of a crash
pub record IsNew (e : Logged) (rows_limit : ℕ) (before after : View) : Type 0 where
  pub runs : Runs e after (new_store (no_image image_pages) rows_limit)
  pub unmade : IsTold before → IsMade before.seen.pages → ⊥
  pub pages : IsTold before → Always after (λ c. c.pages ≡ made_pages)

-- what a store opens with whose image has this directory, on so many pages
abbrev pub opening_of : Directory → (root_pages : ℕ) → Opening
opening_of d root_pages = record { stages = d.stages; image_pages = image_pages; root_pages = root_pages }

-- Files say this journal, behind an image of this directory on these pages.
pub record Says (j : Journal) (d : Directory) (reached : List ℕ) (c : Image) : Type 0 where
  pub end : LogPlace
  pub reading : IsReading j d end c
  pub pages : reading.reached ≡ reached

-- a store that was opened with what its files said
pub record Opens (e : Logged) (rows_limit : ℕ) (before after : View) : Type 0 where
  pub journal : Journal
  pub directory : Directory
  -- the pages that the selected root reaches
  pub reached : List ℕ
  pub runs : Runs e after (opened_store (opening_of directory (length reached)) journal rows_limit)
  pub said : IsTold before → Says journal directory reached before.seen

-- while a store is made: the files aren't one yet, or hold the empty journal
abbrev pub NotMadeOrEmpty : Image → Type 0
NotMadeOrEmpty c = (IsMade c.pages → ⊥) ⊎ HoldsJournal empty_journal c
