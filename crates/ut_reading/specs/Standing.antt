-- A directory's tables and parts as they stand in a page file, in keys.
use Rattle.std.specs.Prelude.{ℕ, ◌≡◌, ◌⊎◌, List, [], ◌∷◌, ◌++◌, length, map, Contains}
use Rattle.std.specs.List.{items_where_true, AllZip, sum_by}
use Rattle.ut_value.specs.declared.value.Column.{Column}
use Rattle.ut_l2.specs.KeyRows.{KeyRow}
use Rattle.ut_main.specs.Parts.{PartValue, MainValue, dicts_behind}
use Rattle.ut_main.specs.Spelling.{part_bytes, MayStand}
use Rattle.ut_image.specs.declared.drawn.PartRef.{PartRef}
use Rattle.ut_image.specs.declared.drawn.Drawn.{Drawn}
use Rattle.ut_image.specs.Bytes.{image_bytes}
use Rattle.ut_image.specs.Rules.{AreDrawn, AreOwnIds, ids_of}
use Rattle.ut_pages.specs.declared.root.Root.{Root}
use Rattle.ut_durable.specs.Bytes.{Chain, pages_for}
use Rattle.ut_durable.specs.Images.{StandsIn, IsWithin, AreThere}

-- rows as a part behind main
abbrev pub part_of : MainValue → List KeyRow → PartValue
part_of main rows = record { before = dicts_behind main; rows = rows }

-- main with one part more
abbrev pub with_part : MainValue → List KeyRow → MainValue
with_part main rows = record main { parts = main.parts ++ rows ∷ [] }

-- main of a table with so many columns, without a part
abbrev pub no_parts : ℕ → MainValue
no_parts width = record { width = width; parts = [] }

-- ---- which part a directory names

-- A chain stands on reached pages of a page file,
abbrev pub IsReached : (reached file : List ℕ) → Chain → Type 0
IsReached reached file chain = StandsIn file chain × IsWithin reached chain

-- or wherever it may.
abbrev pub IsAnywhere : Chain → Type 0
IsAnywhere chain = Unit {0}

-- These rows are the part that the directory names: a chain that stands so has their bytes.
pub record PartFits (Stands : Chain → Type 0) (columns : List Column) (main : MainValue) (ref : PartRef) (rows : List KeyRow) : Type 0 where
  pub chain : Chain
  pub stands : Stands chain
  pub first : chain.first ≡ ref.first
  pub long : length chain.bytes ≡ ref.length
  pub bytes : chain.bytes ≡ part_bytes (part_of main rows)
  pub may : MayStand columns main (part_of main rows)
  pub count : length rows ≡ ref.rows

-- parts, each behind those before it
abbrev pub PartsFit : (Chain → Type 0) → List Column → MainValue → List PartRef → List (List KeyRow) → Type 0
PartsFit Stands columns main [] [] = Unit {0}
PartsFit Stands columns main [] (rows ∷ parts) = ⊥
PartsFit Stands columns main (ref ∷ refs) [] = ⊥
PartsFit Stands columns main (ref ∷ refs) (rows ∷ parts) =
    PartFits Stands columns main ref rows × PartsFit Stands columns (with_part main rows) refs parts

-- the parts of a table
pub record MainFits (Stands : Chain → Type 0) (t : Drawn) (main : MainValue) : Type 0 where
  pub width : main.width ≡ length t.table.columns
  pub parts : PartsFit Stands t.table.columns (no_parts (length t.table.columns)) t.parts main.parts

-- the rows of a part stand on reached pages of a page file
abbrev pub StandsPart : List Column → MainValue → PartRef → List KeyRow → (reached file : List ℕ) → Type 0
StandsPart columns main ref rows reached file = PartFits (IsReached reached file) columns main ref rows

-- the parts of a list stand there
abbrev pub StandParts : List Column → MainValue → List PartRef → List (List KeyRow) → (reached file : List ℕ) → Type 0
StandParts columns main refs parts reached file = PartsFit (IsReached reached file) columns main refs parts

-- the parts of a table stand there
abbrev pub StandsMain : (reached file : List ℕ) → Drawn → MainValue → Type 0
StandsMain reached file t main = MainFits (IsReached reached file) t main

-- ---- how many pages

-- the chains that a directory names take so many
abbrev pub part_pages : List PartRef → ℕ
part_pages refs = sum_by (λ (r : PartRef). pages_for r.length) refs

-- the chains of all tables' parts take so many
abbrev pub all_part_pages : List Drawn → ℕ
all_part_pages tables = sum_by (λ (t : Drawn). part_pages t.parts) tables

-- ---- the ids of rows

-- those of the live rows of parts
abbrev pub live_in : PartRef → List KeyRow → List ℕ
live_in ref rows = map (λ (r : KeyRow). r.id) (items_where_true ref.live rows)

-- those of the live rows of a table's parts
abbrev pub live_in_parts : List PartRef → List (List KeyRow) → List ℕ
live_in_parts [] parts = []
live_in_parts (ref ∷ refs) [] = []
live_in_parts (ref ∷ refs) (rows ∷ parts) = live_in ref rows ++ live_in_parts refs parts

-- those of the live rows of all tables' parts
abbrev pub live_in_mains : List Drawn → List MainValue → List ℕ
live_in_mains [] mains = []
live_in_mains (t ∷ ts) [] = []
live_in_mains (t ∷ ts) (main ∷ mains) = live_in_parts t.parts main.parts ++ live_in_mains ts mains

-- ---- the whole image

-- the tables of a directory's bytes, which may be none
abbrev pub AreDrawnIn : Root → List ℕ → List Drawn → Type 0
AreDrawnIn root bytes tables = ((bytes ≡ []) × (tables ≡ [])) ⊎ ((bytes ≡ image_bytes tables) × AreDrawn root.next root.commits tables)

-- These tables are the directory's, these mains their parts, and no two rows have one id.
pub record StandsImage (root : Root) (bytes : List ℕ) (tables : List Drawn) (mains : List MainValue) (reached file : List ℕ) : Type 0 where
  pub drawn : AreDrawnIn root bytes tables
  pub parts : AllZip (StandsMain reached file) tables mains
  pub ids : AreOwnIds root.next (ids_of tables ++ live_in_mains tables mains)

-- More pages are reached than before, all of them there where those before were.
pub record ReachMore (file old new : List ℕ) : Type 0 where
  pub keeps : (k : ℕ) → Contains old k → Contains new k
  pub there : AreThere old file → AreThere new file
