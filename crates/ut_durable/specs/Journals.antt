-- What files say of a journal.
use Rattle.std.specs.Prelude.{ℕ, suc, zero, ◌≤◌, List}
use Rattle.ut_outside.specs.declared.disk.Which.{Which}
use Rattle.ut_outside.specs.declared.disk.Which.TheVariants.{Redo, Redo2}
use Rattle.ut_outside.specs.Disk.{Image}
use Rattle.ut_plain.specs.Journal.{Journal, journal_len, part}
use Rattle.ut_plain.specs.Reached.{MayOpen}
use Rattle.ut_redo.specs.Appends.{LogPlace}
use Rattle.ut_redo.specs.Logs.{LogHolds}
use Rattle.ut_pages.specs.declared.slot.Slot.{Slot}
use Rattle.ut_pages.specs.declared.root.Root.{Root}
use Rattle.ut_pages.specs.Layout.{IsMade, IsSelected}
use Rattle.ut_plain.specs.Capture.{Directory}
use Rattle.ut_durable.specs.Directories.{IsBase}
use Rattle.ut_durable.specs.Images.{HasImage}

-- the log's file of a number in a root
abbrev pub log_file : ℕ → Which
log_file zero = Redo
log_file (suc n) = Redo2

-- where a root's log begins
abbrev pub place_of : Root → LogPlace
place_of root = record { file = log_file root.file; end = root.offset }

-- The page file is made, its selected root has an image of the journal's base,
-- and the log from the root's place on has the entries behind it.
pub record IsReading (j : Journal) (d : Directory) (end : LogPlace) (c : Image) : Type 0 where
  pub slot : Slot
  pub reached : List ℕ
  pub root : Root
  pub made : IsMade c.pages
  pub selected : IsSelected slot c.pages
  pub image : HasImage slot reached root d c.pages
  pub base : IsBase root d j.base
  pub log : LogHolds (place_of root) j.entries end c
  pub may : MayOpen d.stages j

-- files that are a store's, of this journal
pub record HoldsJournal (j : Journal) (c : Image) : Type 0 where
  pub directory : Directory
  pub end : LogPlace
  pub reading : IsReading j directory end c

-- Files that hold a prefix of the journal, of at least so many entries: an image of its first ones, and the others in the log.
pub record HoldsPrefix (j : Journal) (least : ℕ) (c : Image) : Type 0 where
  pub from : ℕ
  pub count : ℕ
  pub begins : j.base.length ≤ from
  pub within : from ≤ count
  pub no_fewer : least ≤ count
  pub no_more : count ≤ journal_len j
  pub holds : HoldsJournal (part j from count) c
