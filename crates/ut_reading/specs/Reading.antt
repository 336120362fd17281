-- What an image in memory says of the page file that it was read from.
use Rattle.std.specs.Prelude.{ℕ, ◌≡◌, List, [], ◌∷◌, length}
use Rattle.ut_main.specs.Parts.{MainValue}
use Rattle.ut_image.specs.declared.drawn.Drawn.{Drawn}
use Rattle.ut_plain.specs.declared.table.Table.{Table}
use Rattle.ut_plain.specs.Stages.{Stages}
use Rattle.ut_plain.specs.Capture.{Directory}
use Rattle.ut_pages.specs.declared.root.Root.{Root}
use Rattle.ut_pages.specs.Layout.{IsSelected, IsRoot}
use Rattle.ut_durable.specs.Rules.{IsDirectory}
use Rattle.ut_durable.specs.Bytes.{Chain, HoldTables, main_of, drawn_all}
use Rattle.ut_durable.specs.Images.{HasImage, AreThere}
use Rattle.ut_reading.specs.declared.image.Image.{Image}

-- the parts of each table as main has them
abbrev pub mains_of : List Table → Stages → List MainValue
mains_of [] stages = []
mains_of (t ∷ ts) [] = []
mains_of (t ∷ ts) (s ∷ ss) = main_of (length t.columns) s.parts ∷ mains_of ts ss

-- Tables and their mains show this directory, wherever its parts stand.
pub record Show (tables : List Drawn) (mains : List MainValue) (d : Directory) : Type 0 where
  pub chains : List (List Chain)
  -- a chain for each part
  pub hold : HoldTables d.tables chains d.stages
  pub drawn : tables ≡ drawn_all d.tables chains d.stages
  pub parts : mains ≡ mains_of d.tables d.stages

-- The selected root has this directory, and the image in memory shows it.
pub record IsImageIn (image : Image) (d : Directory) (file : List ℕ) : Type 0 where
  pub selected : IsSelected image.pages.slot file
  pub has : HasImage image.pages.slot image.pages.reached image.root d file
  pub there : AreThere image.pages.reached file
  pub shown : Show image.tables image.mains d

-- A root, and tables and mains in memory: they show a directory that an image of the root may have.
-- With it the root is the image of one state (`base` of the laws).
pub record Begins (root : Root) (tables : List Drawn) (mains : List MainValue) (d : Directory) : Type 0 where
  pub rules : IsRoot root
  pub shown : Show tables mains d
  pub directory : IsDirectory root.next root.commits d
