-- How the pages of a savepoint follow from what is captured.
use Rattle.std.specs.Prelude.{ℕ, ◌≡◌, ◌<◌, ◌+◌, ◌^◌, false, List, [], ◌∷◌, ◌++◌, length, map, take, drop, Contains}
use Rattle.std.specs.Arc.{arc_value}
use Rattle.std.specs.Int.{w32, to_le_bytes}
use Rattle.std.specs.List.{flat_map, sum_by}
use Rattle.ut_main.specs.Spelling.{part_bytes}
use Rattle.ut_image.specs.declared.drawn.PartRef.{PartRef}
use Rattle.ut_image.specs.Bytes.{head_bytes, parts_bytes}
use Rattle.ut_plain.specs.Capture.{Directory}
use Rattle.ut_pages.specs.declared.root.Root.{Root}
use Rattle.ut_pages.specs.Layout.{IsRoot}
use Rattle.ut_pages.specs.Free.{AreFree}
use Rattle.ut_durable.specs.Rules.{IsDirectory}
use Rattle.ut_durable.specs.Bytes.{Describes, pages_for, image_pages}
use Rattle.ut_durable.specs.Plans.{Draft, chain_of, first_of, plan, planned_of, reached_of}
use Rattle.ut_durable.specs.Saving.{Planned, Saving, IsPlan}
use Rattle.ut_savepoint.specs.declared.captured.CapturedPart.{CapturedPart}
use Rattle.ut_savepoint.specs.declared.captured.CapturedTable.{CapturedTable}
use Rattle.ut_savepoint.specs.Captured.{Captures}

-- the bytes of a part
abbrev pub spelled : CapturedPart → List ℕ
spelled c = part_bytes (arc_value c.part)

-- the bytes of each part of a table
abbrev pub spelled_in : List CapturedPart → List (List ℕ)
spelled_in parts = map spelled parts

-- the bytes of each part of all tables, in order
abbrev pub spelled_all : List CapturedTable → List (List ℕ)
spelled_all tables = flat_map (λ (t : CapturedTable). spelled_in t.parts.items) tables

-- how many pages these take
abbrev pub pages_of : List (List ℕ) → ℕ
pages_of parts = sum_by (λ (bytes : List ℕ). pages_for (length bytes)) parts

-- ---- the directory

-- what it says of parts whose chains stand on these pages, one behind the other
abbrev pub refs_of : List ℕ → List CapturedPart → List PartRef
refs_of pages [] = []
refs_of pages (c ∷ cs) =
    record { first = first_of pages; length = length (spelled c); rows = length (arc_value c.part).rows; live = c.live }
    ∷ refs_of (drop (pages_for (length (spelled c))) pages) cs

-- what it says of tables whose parts stand on these pages, one behind the other
abbrev pub tables_bytes : List ℕ → List CapturedTable → List ℕ
tables_bytes pages [] = []
tables_bytes pages (t ∷ ts) =
    (head_bytes t.table ++ parts_bytes (refs_of pages t.parts.items))
    ++ (t.deltas.items ++ tables_bytes (drop (pages_of (spelled_in t.parts.items)) pages) ts)

-- the bytes of a directory whose parts stand on these pages
abbrev pub directory_of : List ℕ → List CapturedTable → List ℕ
directory_of pages tables = to_le_bytes w32 (length tables) ++ tables_bytes pages tables

-- ---- the chains

-- each part's bytes on as many of the pages as they take
abbrev pub drafts_of : List ℕ → List (List ℕ) → List Draft
drafts_of pages [] = []
drafts_of pages (bytes ∷ more) =
    record { pages = take (pages_for (length bytes)) pages; bytes = bytes }
    ∷ drafts_of (drop (pages_for (length bytes)) pages) more

-- ---- the savepoint

-- that of a root and of what is captured, whose parts stand on the first pages, and the directory on its own
abbrev pub saving_on : Root → List CapturedTable → (first own : List ℕ) → Saving
saving_on root tables first own = record {
  root = record root { image_len = length (directory_of first tables); first_page = first_of own };
  planned = planned_of (drafts_of first (spelled_all tables)) ++ plan own (directory_of first tables);
  reached = reached_of (drafts_of first (spelled_all tables)) ++ own;
  done = 0;
  sealed = false;
}

-- Its root will reach the least pages from the fourth on that aren't reached now, and no others. It writes each of them once, in order.
pub record TakesLeast (reached : List ℕ) (s : Saving) : Type 0 where
  pub least : AreFree (Contains reached) 3 s.reached
  pub order : map (λ (p : Planned). p.n) s.planned ≡ s.reached

-- On them stand the chains of the directory's parts, in their order, and then its own, which the root names.
pub record AreChains (d : Directory) (s : Saving) : Type 0 where
  pub parts : List Draft
  pub own : Draft
  pub planned : s.planned ≡ planned_of parts ++ plan own.pages own.bytes
  pub reached : s.reached ≡ reached_of parts ++ own.pages
  pub first : s.root.first_page ≡ first_of own.pages
  pub describes : IsDirectory s.root.next s.root.commits d → Describes s.root own.bytes (map chain_of parts) d

-- It is one of this root, whose image it sets: its pages are a plan of the image of this directory, where an image may have it.
pub record Plans (root : Root) (reached : List ℕ) (d : Directory) (s : Saving) : Type 0 where
  pub named : s.root ≡ record root { image_len = s.root.image_len; first_page = s.root.first_page }
  pub rules : IsRoot root → IsRoot s.root
  pub done : s.done ≡ 0
  pub unsealed : s.sealed ≡ false
  pub pages : length s.planned ≡ image_pages d
  -- each of its pages is one that the root will reach
  pub even : length s.reached ≡ length s.planned
  pub few : 3 + image_pages d + length reached < 2 ^ 32
  pub takes : TakesLeast reached s
  pub chains : AreChains d s
  pub plan : IsDirectory root.next root.commits d → IsPlan s.planned reached s.reached s.root d

-- It is that of what is captured, whatever pages a root reaches, where these are the least others.
abbrev pub PlansOn : Root → List CapturedTable → (first own : List ℕ) → Saving → Type 0
PlansOn root tables first own s = (reached : List ℕ) (d : Directory) → AreFree (Contains reached) 3 (first ++ own)
    → 3 + (length first + length own) + length reached < 2 ^ 32 → Captures tables d → Plans root reached d s
