-- Laws of a store's files over a savepoint: from each phase to the next, and from what is known to what is promised.
-- Each speaks of the states of a disk, of which `view` is what is known.
use Rattle.std.specs.Prelude.{ℕ, ◌≡◌, ◌≢◌, ◌<◌, ◌+◌, true, false, List, [], ◌++◌, length, map, Contains, Option, None, Some, slice_get}
use Rattle.std.specs.List.{AllByRecursion, AllPairs, AllZip}
use Rattle.ut_value.specs.declared.entry.Entry.{Entry}
use Rattle.ut_value.specs.Spelling.{Spells}
use Rattle.ut_outside.specs.declared.disk.Which.TheVariants.{Pages}
use Rattle.ut_outside.specs.Disk.{Image, View, IsTold, OnFile}
use Rattle.ut_outside.specs.Run.{Always}
use Rattle.ut_plain.specs.Journal.{Journal, journal_len, current, appended, empty_journal}
use Rattle.ut_plain.specs.declared.table.Table.{Table}
use Rattle.ut_plain.specs.declared.stage.TableStages.{TableStages}
use Rattle.ut_plain.specs.Capture.{Directory, capture, AreHeldBy}
use Rattle.ut_plain.specs.Plain.{Plain, Phase, Idle, Writing, Sealed}
use Rattle.ut_plain.specs.Reached.{IsPlain, MayOpen}
use Rattle.ut_redo.specs.Appends.{behind}
use Rattle.ut_redo.specs.Frames.{Holds}
use Rattle.ut_redo.specs.Logs.{LogHolds, switched_place}
use Rattle.ut_pages.specs.declared.root.Root.{Root}
use Rattle.ut_pages.specs.Layout.{IsMade, IsSelected, IsRoot, HasPage, empty_root, made_pages}
use Rattle.ut_pages.specs.Crash.{ChangesOnly}
use Rattle.ut_pages.specs.Free.{AreFree}
use Rattle.ut_durable.specs.Bytes.{Describes, no_directory}
use Rattle.ut_durable.specs.Rules.{image_ids, IsImageRow, IsDirectory}
use Rattle.ut_durable.specs.Images.{HasImage, AreThere}
use Rattle.ut_durable.specs.Directories.{IsBase}
use Rattle.ut_durable.specs.Journals.{place_of, HoldsPrefix}
use Rattle.ut_durable.specs.Files.{IsImageOf}
use Rattle.ut_durable.specs.Calls.{FilesHeld, IsSettled, Gains, Stays, BecomesReady, Flips, Moves}
use Rattle.ut_durable.specs.Made.{made_held}
use Rattle.ut_durable.specs.Saving.{Planned, MayWrite, IsPlan, Saving, IsStored}
use Rattle.ut_durable.specs.Plans.{Draft, IsDraft, Ascend, first_of, plan, chain_of, planned_of, reached_of}

-- ---- from each phase to the next

-- An append that a plain store allows, in any phase.
abbrev pub AppendIsStored : {D : Type 0} → (D → View) → Type 0
AppendIsStored {D} view = (j : Journal) (e : Entry) (payload : List ℕ) (f f' : FilesHeld) (selected : Root) (d : Directory)
    (saving : Option Saving) (phase : Phase) (v0 v1 : D) (p : Plain)
    → Spells payload e → IsPlain p → p.journal ≡ appended j e → f' ≡ record f { log = behind f.log payload }
    → (view v1).told ≡ (view v0).told → (IsTold (view v0) → (view v1).seen.pages ≡ (view v0).seen.pages)
    → Gains payload f f' (view v0) (view v1)
    → IsStored j f selected d saving phase (view v0) → IsStored (appended j e) f' selected d saving phase (view v1)

-- The log moves off the file in which the selected root's log begins.
abbrev pub SwitchIsStored : {D : Type 0} → (D → View) → Type 0
SwitchIsStored {D} view = (j : Journal) (f f' : FilesHeld) (selected : Root) (d : Directory) (v0 v1 : D)
    → f.log.file ≡ (place_of selected).file → f' ≡ record f { log = switched_place f.log } → Moves f f' (view v0) (view v1)
    → IsStored j f selected d None Idle (view v0)
    → IsStored j f' selected d None Idle (view v1) × (f'.log.file ≢ (place_of selected).file)

-- An image of the whole journal is captured where the log has moved off it, and its pages are planned.
abbrev pub BeginIsStored : {D : Type 0} → (D → View) → Type 0
BeginIsStored {D} view = (j : Journal) (f : FilesHeld) (selected : Root) (d : Directory) (s : Saving) (c : Directory) (v : D)
    → IsImageOf j s.root c → s.root.length ≡ journal_len j → place_of s.root ≡ f.log → s.root.version ≡ 2
    → f.log.file ≢ (place_of selected).file → s.sealed ≡ false → s.done ≡ 0
    → IsPlan s.planned f.reached s.reached s.root c
    → IsStored j f selected d None Idle (view v)
    → IsStored j f selected d (Some s) (Writing (journal_len j) 0 (length s.planned) c) (view v)

-- The next planned page may be written,
abbrev pub NextMayBeWritten : {D : Type 0} → (D → View) → Type 0
NextMayBeWritten {D} view = (j : Journal) (f : FilesHeld) (selected : Root) (d : Directory) (s : Saving)
    (b n q : ℕ) (c : Directory) (p : Planned) (v : D)
    → IsStored j f selected d (Some s) (Writing b n q c) (view v) → slice_get s.planned s.done ≡ Some p → MayWrite f.reached p

-- and then it is.
abbrev pub PageIsStored : {D : Type 0} → (D → View) → Type 0
PageIsStored {D} view = (j : Journal) (f : FilesHeld) (selected : Root) (d : Directory) (s : Saving)
    (b n q : ℕ) (c : Directory) (p : Planned) (v0 v1 : D)
    → slice_get s.planned s.done ≡ Some p → s.done < length s.planned → (view v1).told ≡ (view v0).told
    → Stays f (view v0) (view v1) → (IsTold (view v0) → HasPage p.n p.next p.payload (view v1).seen.pages)
    → (IsTold (view v0) → OnFile Pages (ChangesOnly p.n (length (view v0).seen.pages)) (view v0).seen (view v1).seen)
    → IsStored j f selected d (Some s) (Writing b n q c) (view v0)
    → IsStored j f selected d (Some (record s { done = s.done + 1 })) (Writing b (n + 1) q c) (view v1)

-- All pages are written, and now the root.
abbrev pub SealIsStored : {D : Type 0} → (D → View) → Type 0
SealIsStored {D} view = (j : Journal) (f : FilesHeld) (selected : Root) (d : Directory) (s : Saving) (b n q : ℕ) (c : Directory) (v0 v1 : D)
    → s.done ≡ length s.planned → Stays f (view v0) (view v1) → BecomesReady s.root f (view v0) (view v1)
    → IsStored j f selected d (Some s) (Writing b n q c) (view v0)
    → IsStored j f selected d (Some (record s { sealed = true })) (Sealed b q c) (view v1)

-- It is selected.
abbrev pub FlipIsStored : {D : Type 0} → (D → View) → Type 0
FlipIsStored {D} view = (j : Journal) (f f' : FilesHeld) (selected : Root) (d : Directory) (s : Saving)
    (b q : ℕ) (c : Directory) (v0 v1 : D)
    → Flips s.reached f f' (view v0) (view v1)
    → IsStored j f selected d (Some s) (Sealed b q c) (view v0) → IsStored j f' s.root c None Idle (view v1)

-- The savepoint is dropped.
abbrev pub DropIsStored : {D : Type 0} → (D → View) → Type 0
DropIsStored {D} view = (j : Journal) (f : FilesHeld) (selected : Root) (d : Directory) (saving : Option Saving) (phase : Phase) (v : D)
    → IsStored j f selected d saving phase (view v) → IsStored j f selected d None Idle (view v)

-- ---- from what is known to what is promised, and to what the calls ask for

-- A store whose files are known has settled, and where its disk tells, each image that a crash may leave holds the whole journal.
abbrev pub StoredHoldsAll : {D : Type 0} → (D → View) → Type 0
StoredHoldsAll {D} view = (j : Journal) (f : FilesHeld) (selected : Root) (d : Directory) (saving : Option Saving) (phase : Phase) (v : D)
    → IsStored j f selected d saving phase (view v)
    → IsSettled f (view v) × (IsTold (view v) → Always (view v) (HoldsPrefix j (journal_len j)))

-- ---- the beginning

-- A store that was opened: each outcome of a crash is what was read.
abbrev pub OpenedIsStored : {D : Type 0} → (D → View) → Type 0
OpenedIsStored {D} view = (j : Journal) (d : Directory) (f : FilesHeld) (root : Root) (seen : Image) (v : D) → IsMade seen.pages
    → IsSelected f.slot seen.pages → AreThere f.reached seen.pages → HasImage f.slot f.reached root d seen.pages
    → IsBase root d j.base → LogHolds (place_of root) j.entries f.log seen → MayOpen d.stages j
    → (IsTold (view v) → Always (view v) (λ c. c ≡ seen)) → IsStored j f root d None Idle (view v)

-- A store that was just made.
abbrev pub MadeIsStored : {D : Type 0} → (D → View) → Type 0
MadeIsStored {D} view = (f : FilesHeld) (v : D) → f ≡ made_held → MayOpen [] empty_journal
    → (IsTold (view v) → Always (view v) (λ c. (c.pages ≡ made_pages) × Holds 0 [] 0 c.redo))
    → IsStored empty_journal f empty_root no_directory None Idle (view v)

-- ---- images

-- the rows of a table's parts, dead or live, have ids and values of its columns
abbrev pub HaveRows : Table → TableStages → Type 0
HaveRows t s = AllByRecursion (AllByRecursion (IsImageRow t.columns)) s.parts

-- What is captured may be an image's directory, where no two of its rows have one id.
abbrev pub CapturedIsDirectory : Type 0
CapturedIsDirectory = (p : Plain) → IsPlain p → AreHeldBy p.stages (current p.journal).rows
    → AllZip HaveRows (current p.journal).tables p.stages
    → AllPairs (λ a b. a ≢ b) (image_ids (capture (current p.journal) p.stages).stages)
    → IsDirectory (current p.journal).next (current p.journal).commits (capture (current p.journal) p.stages)

-- A root of the journal's length and counts, and what is captured, are an image of the journal.
abbrev pub CapturedIsImage : Type 0
CapturedIsImage = (p : Plain) (root : Root) → IsPlain p → AreHeldBy p.stages (current p.journal).rows
    → AllPairs (λ a b. a ≢ b) (image_ids (capture (current p.journal) p.stages).stages) → IsRoot root
    → root.length ≡ journal_len p.journal → (current p.journal).length ≡ root.length
    → (current p.journal).next ≡ root.next → (current p.journal).commits ≡ root.commits
    → (current p.journal).merges ≡ root.merges
    → IsImageOf p.journal root (capture (current p.journal) p.stages)

-- The pages of the parts' chains, and then those of the directory's, which ascend and aren't reached: they are a plan of the image.
abbrev pub ChainsArePlan : Type 0
ChainsArePlan = (directory : Draft) (parts : List Draft) (root : Root) (d : Directory) (reached : List ℕ)
    → IsDraft directory → AllByRecursion IsDraft parts → Ascend 3 (reached_of parts ++ directory.pages)
    → ((k : ℕ) → Contains (reached_of parts ++ directory.pages) k → Contains reached k → ⊥)
    → first_of directory.pages ≡ root.first_page → length directory.bytes ≡ root.image_len
    → Describes root directory.bytes (map chain_of parts) d
    → IsPlan (planned_of parts ++ plan directory.pages directory.bytes) reached (reached_of parts ++ directory.pages) root d

-- The least free pages are such.
abbrev pub FreePagesAscend : Type 0
FreePagesAscend = (reached pages : List ℕ) → AreFree (Contains reached) 3 pages
    → Ascend 3 pages × ((k : ℕ) → Contains pages k → Contains reached k → ⊥)
