-- Laws of a store's files at each moment of a call: a crash leaves the journal, and the selected root with all that it reaches.
-- Those on calls speak of the states of a disk, of which `view` is what is known.
use Rattle.std.specs.Prelude.{ℕ, ◌≡◌, ◌≤◌, List, Option, Some}
use Rattle.ut_value.specs.declared.entry.Entry.{Entry}
use Rattle.ut_value.specs.Spelling.{Spells}
use Rattle.ut_outside.specs.Disk.{Image, View, IsTold}
use Rattle.ut_outside.specs.Run.{LeavesOnly}
use Rattle.ut_plain.specs.Journal.{Journal, journal_len, appended}
use Rattle.ut_plain.specs.Capture.{Directory}
use Rattle.ut_plain.specs.Plain.{Plain, Phase, Sealed}
use Rattle.ut_plain.specs.Reached.{IsPlain}
use Rattle.ut_pages.specs.declared.root.Root.{Root}
use Rattle.ut_durable.specs.Journals.{place_of, HoldsPrefix}
use Rattle.ut_durable.specs.Files.{HasSelected}
use Rattle.ut_durable.specs.Calls.{FilesHeld, MayGain, Stays, MayFlip, MayMove}
use Rattle.ut_durable.specs.Saving.{Saving, IsStored}

-- Files that hold a prefix of the journal, of at least so many entries, and have the selected root still.
pub record Leaves (j : Journal) (least : ℕ) (f : FilesHeld) (selected : Root) (d : Directory) (c : Image) : Type 0 where
  pub holds : HoldsPrefix j least c
  pub root : HasSelected f.slot f.reached selected d c

-- An append that a plain store allows, in any phase: the journal with the entry or without it.
abbrev pub AppendLeaves : {D : Type 0} → (D → View) → Type 0
AppendLeaves {D} view = (j : Journal) (e : Entry) (payload : List ℕ) (f : FilesHeld) (selected : Root) (d : Directory)
    (saving : Option Saving) (phase : Phase) (v0 v1 : D) (p : Plain)
    → Spells payload e → IsPlain p → p.journal ≡ appended j e → MayGain payload f (view v0) (view v1)
    → IsStored j f selected d saving phase (view v0)
    → IsTold (view v0) → LeavesOnly (view v0) (view v1) (Leaves (appended j e) (journal_len j) f selected d)

-- A page, or the root that isn't selected yet.
abbrev pub StayLeaves : {D : Type 0} → (D → View) → Type 0
StayLeaves {D} view = (j : Journal) (f : FilesHeld) (selected : Root) (d : Directory) (saving : Option Saving) (phase : Phase) (v0 v1 : D)
    → Stays f (view v0) (view v1) → IsStored j f selected d saving phase (view v0)
    → IsTold (view v0) → LeavesOnly (view v0) (view v1) (Leaves j (journal_len j) f selected d)

-- The move of the log off the file in which the selected root's log begins.
abbrev pub SwitchLeaves : {D : Type 0} → (D → View) → Type 0
SwitchLeaves {D} view = (j : Journal) (f : FilesHeld) (selected : Root) (d : Directory) (saving : Option Saving) (phase : Phase) (v0 v1 : D)
    → f.log.file ≡ (place_of selected).file → MayMove f (view v0) (view v1) → IsStored j f selected d saving phase (view v0)
    → IsTold (view v0) → LeavesOnly (view v0) (view v1) (Leaves j (journal_len j) f selected d)

-- A flip: the journal, behind the root before or behind the one that was whole.
abbrev pub FlipLeaves : {D : Type 0} → (D → View) → Type 0
FlipLeaves {D} view = (j : Journal) (f : FilesHeld) (selected : Root) (d : Directory) (s : Saving) (b q : ℕ) (c : Directory) (v0 v1 : D)
    → MayFlip s.reached f (view v0) (view v1) → IsStored j f selected d (Some s) (Sealed b q c) (view v0)
    → IsTold (view v0) → LeavesOnly (view v0) (view v1) (HoldsPrefix j (journal_len j))

-- ---- prefixes

-- A prefix of a journal is one of a longer journal,
abbrev pub PrefixOfMore : Type 0
PrefixOfMore = (j : Journal) (e : Entry) (least : ℕ) (c : Image) → HoldsPrefix j least c → HoldsPrefix (appended j e) least c

-- and has at least as many entries as fewer.
abbrev pub PrefixOfFewer : Type 0
PrefixOfFewer = (j : Journal) (least fewer : ℕ) (c : Image) → fewer ≤ least → HoldsPrefix j least c → HoldsPrefix j fewer c
