-- The log and the pages as callers see them, what is known of them, and what each call does to that.
use Rattle.std.specs.Prelude.{◌≡◌, ◌≤◌, ℕ, List}
use Rattle.ut_outside.specs.Disk.{View, IsTold, content}
use Rattle.ut_outside.specs.Run.{Always, LeavesOnly}
use Rattle.ut_value.specs.declared.entry.Entry.{Entry}
use Rattle.ut_value.specs.Spelling.{Spells}
use Rattle.ut_plain.specs.Journal.{Journal, journal_len, appended}
use Rattle.ut_plain.specs.Capture.{Directory}
use Rattle.ut_redo.specs.Appends.{LogPlace, IsClosedAt}
use Rattle.ut_redo.specs.Groups.{Group}
use Rattle.ut_pages.specs.declared.slot.Slot.{Slot}
use Rattle.ut_pages.specs.declared.root.Root.{Root}
use Rattle.ut_pages.specs.Layout.{other}
use Rattle.ut_pages.specs.Crash.{Stands}
use Rattle.ut_durable.specs.Journals.{place_of, HoldsPrefix}
use Rattle.ut_durable.specs.Files.{IsImageOf, IsStaged, HasSelected, Rests, IsSealed, LogBehind}

-- where the next frame goes and what of a group stands behind that gate, which slot is selected, and the pages that its root reaches
pub record FilesHeld : Type 0 where
  pub log : LogPlace
  pub group : Group
  pub slot : Slot
  pub reached : List ℕ

-- ---- what is known, whatever a crash leaves

-- each outcome has a closed gate where the log ends, and the selected root's pages
abbrev pub IsSettled : FilesHeld → View → Type 0
IsSettled f disk = IsTold disk
    → Always disk (λ c. IsClosedAt f.log.end (content f.log.file c) × Stands f.slot f.reached c.pages)

-- each holds this journal behind the selected root
abbrev pub IsRested : Journal → Root → Directory → FilesHeld → View → Type 0
IsRested j root d f disk = IsTold disk → Always disk (Rests j f.slot f.reached root d f.log)

-- the log has the entries behind a root
abbrev pub IsFollowed : Journal → Root → FilesHeld → View → Type 0
IsFollowed j root f disk = IsTold disk → Always disk (LogBehind j root f.log)

-- the root in this slot is whole
abbrev pub IsReady : Journal → Slot → List ℕ → Root → Directory → FilesHeld → View → Type 0
IsReady j slot reached root d f disk = IsTold disk → Always disk (IsSealed j slot reached root d f.log)

-- ---- what a call does, whatever journal, root and directory the files held

-- An append: the files hold the journal with the entry that has this spelling,
-- behind the selected root, and behind one that is captured or whole.
pub record Gains (payload : List ℕ) (f f' : FilesHeld) (old new : View) : Type 0 where
  pub rests : (j : Journal) (root : Root) (d : Directory) (entry : Entry) → Spells payload entry → IsImageOf j root d
      → IsRested j root d f old → IsRested (appended j entry) root d f' new
  pub followed : (j : Journal) (root : Root) (entry : Entry) → Spells payload entry → root.length ≤ journal_len j
      → IsFollowed j root f old → IsFollowed (appended j entry) root f' new
  pub ready : (j : Journal) (root : Root) (reached : List ℕ) (d : Directory) (entry : Entry) → Spells payload entry
      → IsImageOf j root d
      → IsReady j (other f.slot) reached root d f old → IsReady (appended j entry) (other f.slot) reached root d f' new

-- At each moment of it a crash leaves the journal, with the entry or without it, and the selected root with all that it reaches.
pub record MayGain (payload : List ℕ) (f : FilesHeld) (old new : View) : Type 0 where
  pub journal : (j : Journal) (root : Root) (d : Directory) (entry : Entry) → Spells payload entry → IsImageOf j root d
      → IsImageOf (appended j entry) root d → IsRested j root d f old
      → IsTold old → LeavesOnly old new (HoldsPrefix (appended j entry) (journal_len j))
  pub root : (j : Journal) (root : Root) (d : Directory) (entry : Entry) → Spells payload entry
      → IsRested j root d f old → IsTold old → LeavesOnly old new (HasSelected f.slot f.reached root d)

-- A page or a root that isn't selected: the files hold the journal behind the selected root as before, at each moment too.
pub record Stays (f : FilesHeld) (old new : View) : Type 0 where
  pub rests : (j : Journal) (root : Root) (d : Directory) → IsRested j root d f old → IsRested j root d f new
  pub any_moment : (j : Journal) (root : Root) (d : Directory) → IsRested j root d f old → IsTold old
      → LeavesOnly old new (Rests j f.slot f.reached root d f.log)
  pub followed : (j : Journal) (root : Root) → IsFollowed j root f old → IsFollowed j root f new

-- A root whose pages stand where a read finds them becomes whole.
abbrev pub BecomesReady : Root → FilesHeld → View → View → Type 0
BecomesReady root f old new = (j : Journal) (reached : List ℕ) (d : Directory) → IsFollowed j root f old
    → (IsTold old → IsStaged reached root d old.seen.pages) → IsReady j (other f.slot) reached root d f new

-- A flip: the files hold the journal behind the root that was whole.
abbrev pub Flips : List ℕ → FilesHeld → FilesHeld → View → View → Type 0
Flips reached f f' old new = (j : Journal) (before after : Root) (d e : Directory) → IsRested j before d f old
    → IsReady j (other f.slot) reached after e f old → IsRested j after e f' new

-- at each moment of it, behind that one or the one before
abbrev pub MayFlip : List ℕ → FilesHeld → View → View → Type 0
MayFlip reached f old new = (j : Journal) (before after : Root) (d e : Directory) → IsImageOf j before d
    → IsImageOf j after e → IsRested j before d f old → IsReady j (other f.slot) reached after e f old
    → IsTold old → LeavesOnly old new (HoldsPrefix j (journal_len j))

-- The log moves to its other file, where it stands in the one in which the selected root's log begins:
-- the files hold the journal as before.
abbrev pub Moves : FilesHeld → FilesHeld → View → View → Type 0
Moves f f' old new = (j : Journal) (root : Root) (d : Directory) → f.log.file ≡ (place_of root).file
    → IsRested j root d f old → IsRested j root d f' new

-- At each moment of it a crash leaves the journal, and the selected root with all that it reaches.
pub record MayMove (f : FilesHeld) (old new : View) : Type 0 where
  pub journal : (j : Journal) (root : Root) (d : Directory) → IsImageOf j root d → f.log.file ≡ (place_of root).file
      → IsRested j root d f old → IsTold old → LeavesOnly old new (HoldsPrefix j (journal_len j))
  pub root : (j : Journal) (root : Root) (d : Directory) → IsRested j root d f old → IsTold old
      → LeavesOnly old new (HasSelected f.slot f.reached root d)
