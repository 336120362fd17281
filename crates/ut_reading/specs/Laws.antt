-- Laws of reading: what a store's files determine, and when they are a store's.
use Rattle.std.specs.Prelude.{ℕ, ◌≡◌, ◌≤◌, List, length, IsTrue}
use Rattle.std.specs.FinMap as finmap
use Rattle.ut_outside.specs.Disk.{Image}
use Rattle.ut_redo.specs.Appends.{LogPlace}
use Rattle.ut_plain.specs.State.{State}
use Rattle.ut_plain.specs.Journal.{Journal, journal_len, load_of, can_all}
use Rattle.ut_plain.specs.Reached.{MayOpen}
use Rattle.ut_plain.specs.Capture.{Directory}
use Rattle.ut_pages.specs.declared.slot.Slot.{Slot}
use Rattle.ut_pages.specs.declared.root.Root.{Root}
use Rattle.ut_pages.specs.Layout.{IsSelected}
use Rattle.ut_durable.specs.Rules.{image_ids}
use Rattle.ut_durable.specs.Directories.{IsBase}
use Rattle.ut_durable.specs.Images.{HasImage}
use Rattle.ut_durable.specs.Journals.{IsReading}

-- Files are read in one way at most: they determine the journal, the directory and the log's end.
abbrev pub OneStore : Type 0
OneStore = (j j' : Journal) (d d' : Directory) (end end' : LogPlace) (c : Image) → IsReading j d end c → IsReading j' d' end' c
    → (j ≡ j') × (d ≡ d') × (end ≡ end')

-- A page file has one image.
abbrev pub OneImageEach : Type 0
OneImageEach = (slot slot' : Slot) (reached reached' : List ℕ) (root root' : Root) (d d' : Directory) (file : List ℕ)
    → IsSelected slot file → IsSelected slot' file → HasImage slot reached root d file → HasImage slot' reached' root' d' file
    → (root ≡ root') × (d ≡ d')

-- A root and its directory are the image of one state, which has as many rows as they have ids.
abbrev pub ImageIsBase : Type 0
ImageIsBase = (slot : Slot) (reached : List ℕ) (root : Root) (d : Directory) (file : List ℕ) → HasImage slot reached root d file
    → (s : State) × IsBase root d s × (finmap.len s.rows ≡ length (image_ids d.stages))

-- A root and its directory are the image of at most one state.
abbrev pub OneBase : Type 0
OneBase = (root : Root) (d : Directory) (s t : State) → IsBase root d s → IsBase root d t → s ≡ t

-- A journal that begins with it can be opened where its entries can be applied, and it and its load aren't too long.
abbrev pub ImageMayOpen : Type 0
ImageMayOpen = (slot : Slot) (reached : List ℕ) (root : Root) (d : Directory) (file : List ℕ) (j : Journal)
    → HasImage slot reached root d file → IsBase root d j.base → IsTrue (can_all j.base j.entries)
    → journal_len j ≤ 1073741824 → load_of j ≤ 2147483648 → MayOpen d.stages j
