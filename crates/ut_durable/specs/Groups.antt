-- Groups of entries, which join the journal at once: what their calls do to the files, and laws of a store's files over them.
use Rattle.std.specs.Prelude.{ℕ, ◌≡◌, ◌≤◌, ◌⊎◌, List, ◌++◌, Option}
use Rattle.ut_value.specs.declared.entry.Entry.{Entry}
use Rattle.ut_outside.specs.Disk.{Image, View, IsTold}
use Rattle.ut_outside.specs.Run.{LeavesOnly}
use Rattle.ut_plain.specs.Journal.{Journal, journal_len}
use Rattle.ut_plain.specs.Capture.{Directory}
use Rattle.ut_plain.specs.Plain.{Plain, Phase}
use Rattle.ut_plain.specs.Reached.{IsPlain}
use Rattle.ut_redo.specs.Frames.{payload_of, IsFrame}
use Rattle.ut_redo.specs.Groups.{Log, IsUnderWay, behind_group}
use Rattle.ut_pages.specs.declared.root.Root.{Root}
use Rattle.ut_pages.specs.Layout.{other}
use Rattle.ut_durable.specs.Journals.{HoldsPrefix}
use Rattle.ut_durable.specs.Files.{IsImageOf, HasSelected, Rests}
use Rattle.ut_durable.specs.Calls.{FilesHeld, IsRested, IsFollowed, IsReady}
use Rattle.ut_durable.specs.Saving.{Saving, IsStored}
use Rattle.ut_durable.specs.Moments.{Leaves}

-- a journal with these entries behind it
abbrev pub extended : Journal → List Entry → Journal
extended j items = record j { entries = j.entries ++ items }

-- the log, as its own crate has it
abbrev pub log_held : FilesHeld → Log
log_held f = record { place = f.log; group = f.group }

-- A full group of these entries stands behind the closed gate.
pub record IsFull (items : List Entry) (f : FilesHeld) (disk : View) : Type 0 where
  pub whole : IsFrame items
  pub under_way : IsUnderWay (log_held f) (payload_of items) disk

-- files that hold the one journal or the other, each whole
abbrev pub HoldsEither : Journal → Journal → Image → Type 0
HoldsEither j k c = HoldsPrefix j (journal_len j) c ⊎ HoldsPrefix k (journal_len k) c

-- ---- what a call does, whatever journal, root and directory the files held

-- While a group is written: the files hold the journal behind each root as before, at each moment too.
pub record Waits (f : FilesHeld) (old new : View) : Type 0 where
  pub rests : (j : Journal) (root : Root) (d : Directory) → IsRested j root d f old → IsRested j root d f new
  pub followed : (j : Journal) (root : Root) → IsFollowed j root f old → IsFollowed j root f new
  pub ready : (j : Journal) (root : Root) (reached : List ℕ) (d : Directory) → IsReady j (other f.slot) reached root d f old
      → IsReady j (other f.slot) reached root d f new
  pub any_moment : (j : Journal) (root : Root) (d : Directory) → IsRested j root d f old → IsTold old
      → LeavesOnly old new (Rests j f.slot f.reached root d f.log)

-- The end of a group: the files hold the journal with all of its entries, behind each root.
pub record GainsGroup (f f' : FilesHeld) (old new : View) : Type 0 where
  pub rests : (j : Journal) (root : Root) (d : Directory) (items : List Entry) → IsFull items f old → IsImageOf j root d
      → IsRested j root d f old → IsRested (extended j items) root d f' new
  pub followed : (j : Journal) (root : Root) (items : List Entry) → IsFull items f old → root.length ≤ journal_len j
      → IsFollowed j root f old → IsFollowed (extended j items) root f' new
  pub ready : (j : Journal) (root : Root) (reached : List ℕ) (d : Directory) (items : List Entry) → IsFull items f old
      → IsImageOf j root d
      → IsReady j (other f.slot) reached root d f old → IsReady (extended j items) (other f.slot) reached root d f' new

-- At each moment of it a crash leaves the journal as it was or with all of the entries, and the selected root with all that it reaches.
pub record MayGainGroup (f : FilesHeld) (old new : View) : Type 0 where
  pub journal : (j : Journal) (root : Root) (d : Directory) (items : List Entry) → IsFull items f old → IsImageOf j root d
      → IsImageOf (extended j items) root d → IsRested j root d f old
      → IsTold old → LeavesOnly old new (HoldsEither j (extended j items))
  pub root : (j : Journal) (root : Root) (d : Directory) (items : List Entry) → IsFull items f old
      → IsRested j root d f old → IsTold old → LeavesOnly old new (HasSelected f.slot f.reached root d)

-- ---- laws

-- What a store knows of its files stays while a group is written, in any phase,
abbrev pub WaitIsStored : {D : Type 0} → (D → View) → Type 0
WaitIsStored {D} view = (j : Journal) (f f' : FilesHeld) (selected : Root) (d : Directory) (saving : Option Saving) (phase : Phase) (v0 v1 : D)
    → f'.log ≡ f.log → f'.slot ≡ f.slot → f'.reached ≡ f.reached → (view v1).told ≡ (view v0).told
    → (IsTold (view v0) → (view v1).seen.pages ≡ (view v0).seen.pages) → Waits f (view v0) (view v1)
    → IsStored j f selected d saving phase (view v0) → IsStored j f' selected d saving phase (view v1)

-- and at each moment a crash leaves the journal as it was.
abbrev pub WaitLeaves : {D : Type 0} → (D → View) → Type 0
WaitLeaves {D} view = (j : Journal) (f : FilesHeld) (selected : Root) (d : Directory) (saving : Option Saving) (phase : Phase) (v0 v1 : D)
    → Waits f (view v0) (view v1) → IsStored j f selected d saving phase (view v0)
    → IsTold (view v0) → LeavesOnly (view v0) (view v1) (Leaves j (journal_len j) f selected d)

-- The end of a group that a plain store allows, in any phase.
abbrev pub GroupIsStored : {D : Type 0} → (D → View) → Type 0
GroupIsStored {D} view = (j : Journal) (items : List Entry) (f f' : FilesHeld) (selected : Root) (d : Directory)
    (saving : Option Saving) (phase : Phase) (v0 v1 : D) (p : Plain)
    → IsFull items f (view v0) → IsPlain p → p.journal ≡ extended j items → f' ≡ record f { log = behind_group (log_held f) }
    → (view v1).told ≡ (view v0).told → (IsTold (view v0) → (view v1).seen.pages ≡ (view v0).seen.pages)
    → GainsGroup f f' (view v0) (view v1)
    → IsStored j f selected d saving phase (view v0) → IsStored (extended j items) f' selected d saving phase (view v1)

-- Files that hold the one journal or the other, and have the selected root still.
pub record LeavesEither (j k : Journal) (f : FilesHeld) (selected : Root) (d : Directory) (c : Image) : Type 0 where
  pub holds : HoldsEither j k c
  pub root : HasSelected f.slot f.reached selected d c

-- At each moment of it a crash leaves the journal as it was, or with all of the group's entries, and no part of them.
abbrev pub GroupLeaves : {D : Type 0} → (D → View) → Type 0
GroupLeaves {D} view = (j : Journal) (items : List Entry) (f : FilesHeld) (selected : Root) (d : Directory)
    (saving : Option Saving) (phase : Phase) (v0 v1 : D) (p : Plain)
    → IsFull items f (view v0) → IsPlain p → p.journal ≡ extended j items → MayGainGroup f (view v0) (view v1)
    → IsStored j f selected d saving phase (view v0)
    → IsTold (view v0) → LeavesOnly (view v0) (view v1) (LeavesEither j (extended j items) f selected d)
