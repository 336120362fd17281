-- What a running store knows of its files, whatever a crash makes of them.
use Rattle.std.specs.Prelude.{ℕ, ◌≤◌, List}
use Rattle.ut_outside.specs.Disk.{Image}
use Rattle.ut_plain.specs.Journal.{Journal, journal_len, state_at, entries_after, part}
use Rattle.ut_plain.specs.Reached.{MayOpen}
use Rattle.ut_redo.specs.Appends.{LogPlace}
use Rattle.ut_redo.specs.Logs.{LogHolds}
use Rattle.ut_pages.specs.declared.slot.Slot.{Slot}
use Rattle.ut_pages.specs.declared.root.Root.{Root}
use Rattle.ut_pages.specs.Layout.{IsRoot}
use Rattle.ut_pages.specs.Crash.{Stands}
use Rattle.ut_plain.specs.Capture.{Directory}
use Rattle.ut_durable.specs.Directories.{IsBase}
use Rattle.ut_durable.specs.Images.{HasImage, HasDirectory, AreThere}
use Rattle.ut_durable.specs.Journals.{place_of}

-- A root and a directory are the image of the journal's state at the root's length. From there on each prefix can be opened.
pub record IsImageOf (j : Journal) (root : Root) (d : Directory) : Type 0 where
  pub rules : IsRoot root
  pub begins : j.base.length ≤ root.length
  pub within : root.length ≤ journal_len j
  pub base : IsBase root d (state_at j root.length)
  pub may : (n : ℕ) → root.length ≤ n → n ≤ journal_len j → MayOpen d.stages (part j root.length n)

-- the log has the entries behind a root's, and its next frame goes to this place
abbrev pub LogBehind : Journal → Root → LogPlace → Image → Type 0
LogBehind j root place c = LogHolds (place_of root) (entries_after j root.length) place c

-- The root in this slot is selected, and has this directory on these pages.
pub record HasSelected (slot : Slot) (reached : List ℕ) (root : Root) (d : Directory) (c : Image) : Type 0 where
  pub stands : Stands slot reached c.pages
  pub image : HasImage slot reached root d c.pages

-- The selected root reaches these pages, and they and the log hold the journal.
pub record Rests (j : Journal) (slot : Slot) (reached : List ℕ) (root : Root) (d : Directory) (place : LogPlace) (c : Image) : Type 0 where
  pub stands : Stands slot reached c.pages
  pub image : HasImage slot reached root d c.pages
  pub log : LogBehind j root place c

-- A root that isn't selected yet is whole, and with the log it holds the journal too.
pub record IsSealed
    (j : Journal) (slot : Slot) (reached : List ℕ) (root : Root) (d : Directory) (place : LogPlace)
    (c : Image) : Type 0 where
  pub there : AreThere reached c.pages
  pub image : HasImage slot reached root d c.pages
  pub log : LogBehind j root place c

-- The chains of a root that isn't written yet stand in the page file.
pub record IsStaged (reached : List ℕ) (root : Root) (d : Directory) (file : List ℕ) : Type 0 where
  pub there : AreThere reached file
  pub image : HasDirectory reached root d file
