-- A savepoint under way, and what is known of the files while it is.
use Rattle.std.specs.Prelude.{ℕ, ◌≡◌, ◌≢◌, ◌≤◌, Bool, true, false, List, [], ◌∷◌, length, take, Contains, Option, None, Some}
use Rattle.std.specs.List.{AllByRecursion}
use Rattle.ut_outside.specs.Disk.{View, IsTold}
use Rattle.ut_plain.specs.Journal.{Journal}
use Rattle.ut_plain.specs.Capture.{Directory}
use Rattle.ut_plain.specs.Plain.{Phase}
use Rattle.ut_plain.specs.Plain.{Idle, Writing, Sealed}
use Rattle.ut_pages.specs.declared.root.Root.{Root}
use Rattle.ut_pages.specs.Layout.{HasPage, other}
use Rattle.ut_durable.specs.Journals.{place_of}
use Rattle.ut_durable.specs.Files.{IsImageOf, IsStaged}
use Rattle.ut_durable.specs.Calls.{FilesHeld, IsRested, IsFollowed, IsReady}

-- a page that is to be written
pub record Planned : Type 0 where
  pub n : ℕ
  pub next : ℕ
  pub payload : List ℕ

-- a planned page stands in the file
abbrev pub IsWritten : List ℕ → Planned → Type 0
IsWritten file p = HasPage p.n p.next p.payload file

-- may be given to a call: it is a data page that the selected root doesn't reach
pub record MayWrite (reached : List ℕ) (p : Planned) : Type 0 where
  pub numbered : 3 ≤ p.n
  pub free : Contains reached p.n → ⊥
  pub short : length p.payload ≤ 4090

-- no two are the same page
abbrev pub AreApart : List Planned → Type 0
AreApart [] = Unit {0}
AreApart (p ∷ ps) = AllByRecursion (λ (q : Planned). p.n ≢ q.n) ps × AreApart ps

-- Pages that are to be written: a file in which all of them stand has the image of this root.
pub record IsPlan (planned : List Planned) (reached new_reached : List ℕ) (root : Root) (d : Directory) : Type 0 where
  pub may : AllByRecursion (MayWrite reached) planned
  pub apart : AreApart planned
  pub staged : (file : List ℕ) → AllByRecursion (IsWritten file) planned → IsStaged new_reached root d file

-- a savepoint as it is held in memory
pub record Saving : Type 0 where
  pub root : Root
  pub planned : List Planned
  -- the pages that its root will reach
  pub reached : List ℕ
  pub done : ℕ
  pub sealed : Bool

-- The savepoint writes: its root is an image of the journal,
-- the log that it captured goes on in a file that the selected root's log doesn't begin in,
-- and the pages so far stand where a read finds them.
pub record IsWriting (j : Journal) (f : FilesHeld) (selected : Root) (disk : View) (s : Saving) (b p q : ℕ) (d : Directory) : Type 0 where
  pub captured : b ≡ s.root.length
  pub done : p ≡ s.done
  pub pages : q ≡ length s.planned
  pub unsealed : s.sealed ≡ false
  pub few : s.done ≤ length s.planned
  pub version : s.root.version ≡ 2
  pub image : IsImageOf j s.root d
  pub apart : f.log.file ≢ (place_of selected).file
  pub log : IsFollowed j s.root f disk
  pub plan : IsPlan s.planned f.reached s.reached s.root d
  pub written : IsTold disk → AllByRecursion (IsWritten disk.seen.pages) (take s.done s.planned)

-- Its root is whole, and waits to be selected.
pub record IsWaiting (j : Journal) (f : FilesHeld) (selected : Root) (disk : View) (s : Saving) (b q : ℕ) (d : Directory) : Type 0 where
  pub captured : b ≡ s.root.length
  pub pages : q ≡ length s.planned
  pub sealed : s.sealed ≡ true
  pub image : IsImageOf j s.root d
  pub apart : f.log.file ≢ (place_of selected).file
  pub ready : IsReady j (other f.slot) s.reached s.root d f disk

-- the savepoint in memory is the phase's
abbrev pub IsSaving : Journal → FilesHeld → Root → View → Option Saving → Phase → Type 0
IsSaving j f selected disk None Idle = Unit {0}
IsSaving j f selected disk None (Writing b p q d) = ⊥
IsSaving j f selected disk None (Sealed b q d) = ⊥
IsSaving j f selected disk (Some s) Idle = ⊥
IsSaving j f selected disk (Some s) (Writing b p q d) = IsWriting j f selected disk s b p q d
IsSaving j f selected disk (Some s) (Sealed b q d) = IsWaiting j f selected disk s b q d

-- All that a running store knows of its files: each outcome of a crash holds the journal behind the selected root.
pub record IsStored
    (j : Journal) (f : FilesHeld) (selected : Root) (d : Directory) (saving : Option Saving) (phase : Phase)
    (disk : View) : Type 0 where
  pub image : IsImageOf j selected d
  pub rests : IsRested j selected d f disk
  pub under_way : IsSaving j f selected disk saving phase
