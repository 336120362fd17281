-- The bytes of a directory, and of the chains that it names.
use Rattle.std.specs.Prelude.{ℕ, ◌≡◌, ◌⊎◌, ◌+◌, ◌/◌, ◌<◌, ◌^◌, Bool, not, List, [], ◌∷◌, ◌++◌, length, map}
use Rattle.std.specs.List.{flat_map, sum_by}
use Rattle.ut_value.specs.declared.value.Row.{Row}
use Rattle.ut_l2.specs.KeyRows.{KeyRow, keyed}
use Rattle.ut_main.specs.Parts.{PartValue, MainValue, dicts_behind}
use Rattle.ut_main.specs.Spelling.{part_bytes}
use Rattle.ut_image.specs.declared.drawn.PartRef.{PartRef}
use Rattle.ut_image.specs.declared.drawn.Drawn.{Drawn}
use Rattle.ut_image.specs.Bytes.{image_bytes}
use Rattle.ut_plain.specs.declared.table.Table.{Table}
use Rattle.ut_plain.specs.declared.stage.Placed.{Placed}
use Rattle.ut_plain.specs.declared.stage.TableStages.{TableStages}
use Rattle.ut_plain.specs.Stages.{Stages}
use Rattle.ut_plain.specs.Capture.{Directory}
use Rattle.ut_pages.specs.declared.root.Root.{Root}
use Rattle.ut_durable.specs.Rules.{IsDirectory}

-- the directory of a store without tables
abbrev pub no_directory : Directory
no_directory = record { tables = []; stages = [] }

-- a chain: its pages, the first of them, and its bytes
pub record Chain : Type 0 where
  pub pages : List ℕ
  pub first : ℕ
  pub bytes : List ℕ

-- ---- parts

-- a place's row
abbrev pub row_in : Placed → Row
row_in p = record { id = p.id; values = p.values }

-- the rows of places, their values as keys
abbrev pub key_rows : List Placed → List KeyRow
key_rows places = map (λ (p : Placed). keyed (row_in p)) places

-- main of these parts
abbrev pub main_of : ℕ → List (List Placed) → MainValue
main_of width parts = record { width = width; parts = map key_rows parts }

-- a part behind earlier ones
abbrev pub part_behind : ℕ → (earlier : List (List Placed)) → List Placed → PartValue
part_behind width earlier part = record { before = dicts_behind (main_of width earlier); rows = key_rows part }

-- for each place of a part, whether its row is live
abbrev pub live_marks : List Placed → List Bool
live_marks part = map (λ (p : Placed). not p.dead) part

-- what a directory says of a part: where its bytes stand, how many rows it has, and which are live
abbrev pub part_ref : Chain → List Placed → PartRef
part_ref chain part = record { first = chain.first; length = length chain.bytes; rows = length part; live = live_marks part }

-- what a directory says of parts, each of which stands in a chain of its own
abbrev pub part_refs : List Chain → List (List Placed) → List PartRef
part_refs [] parts = []
part_refs (chain ∷ chains) [] = []
part_refs (chain ∷ chains) (part ∷ parts) = part_ref chain part ∷ part_refs chains parts

-- a chain holds the bytes of a part, and a directory can name it
pub record HoldsPart (width : ℕ) (earlier : List (List Placed)) (chain : Chain) (part : List Placed) : Type 0 where
  pub bytes : chain.bytes ≡ part_bytes (part_behind width earlier part)
  pub first : chain.first < 2 ^ 32
  pub long : length chain.bytes < 2 ^ 64

-- each chain holds that of its place
abbrev pub HoldParts : ℕ → (earlier : List (List Placed)) → List Chain → List (List Placed) → Type 0
HoldParts width earlier [] [] = Unit {0}
HoldParts width earlier [] (part ∷ parts) = ⊥
HoldParts width earlier (chain ∷ chains) [] = ⊥
HoldParts width earlier (chain ∷ chains) (part ∷ parts) =
    HoldsPart width earlier chain part × HoldParts width (earlier ++ part ∷ []) chains parts

-- ---- tables

-- what a directory says of a table, whose parts stand in these chains
abbrev pub drawn : Table → List Chain → TableStages → Drawn
drawn t chains s = record { table = t; parts = part_refs chains s.parts; l2 = map row_in s.l2; l1 = map row_in s.l1 }

-- what a directory says of all tables, in order
abbrev pub drawn_all : List Table → List (List Chain) → Stages → List Drawn
drawn_all [] chains stages = []
drawn_all (t ∷ ts) [] stages = []
drawn_all (t ∷ ts) (c ∷ cs) [] = []
drawn_all (t ∷ ts) (c ∷ cs) (s ∷ ss) = drawn t c s ∷ drawn_all ts cs ss

-- the chains of all tables hold their parts
abbrev pub HoldTables : List Table → List (List Chain) → Stages → Type 0
HoldTables [] [] [] = Unit {0}
HoldTables [] [] (s ∷ ss) = ⊥
HoldTables [] (c ∷ cs) ss = ⊥
HoldTables (t ∷ ts) [] ss = ⊥
HoldTables (t ∷ ts) (c ∷ cs) [] = ⊥
HoldTables (t ∷ ts) (c ∷ cs) (s ∷ ss) = HoldParts (length t.columns) [] c s.parts × HoldTables ts cs ss

-- ---- directories

-- These bytes and the chains that they name are a directory's, which the image of this root may have.
pub record Spells (root : Root) (bytes : List ℕ) (parts : List Chain) (d : Directory) : Type 0 where
  pub rules : IsDirectory root.next root.commits d
  pub chains : List (List Chain)
  pub flat : flat_map (λ (c : List Chain). c) chains ≡ parts
  pub spelled : bytes ≡ image_bytes (drawn_all d.tables chains d.stages)
  pub hold : HoldTables d.tables chains d.stages

-- They are, or there are none, which is the directory without tables too.
abbrev pub Describes : Root → List ℕ → List Chain → Directory → Type 0
Describes root bytes parts d = ((bytes ≡ []) × (parts ≡ []) × (d ≡ no_directory)) ⊎ Spells root bytes parts d

-- ---- how many pages

-- so many bytes take so many pages
abbrev pub pages_for : ℕ → ℕ
pages_for n = (n + 4089) / 4090

-- the bytes of a part by themselves, at no place
abbrev pub unplaced : ℕ → (earlier : List (List Placed)) → List (List Placed) → List Chain
unplaced width earlier [] = []
unplaced width earlier (part ∷ parts) =
    record { pages = []; first = 0; bytes = part_bytes (part_behind width earlier part) }
    ∷ unplaced width (earlier ++ part ∷ []) parts

-- the bytes of all tables' parts by themselves, at no place
abbrev pub unplaced_all : List Table → Stages → List (List Chain)
unplaced_all [] ss = []
unplaced_all (t ∷ ts) [] = []
unplaced_all (t ∷ ts) (s ∷ ss) = unplaced (length t.columns) [] s.parts ∷ unplaced_all ts ss

-- the number of an image's pages: those of its parts and of its directory, which don't depend on where the parts stand
abbrev pub image_pages : Directory → ℕ
image_pages d =
    let chains = unplaced_all d.tables d.stages in
    sum_by (λ (c : Chain). pages_for (length c.bytes)) (flat_map (λ (c : List Chain). c) chains)
    + pages_for (length (image_bytes (drawn_all d.tables chains d.stages)))
