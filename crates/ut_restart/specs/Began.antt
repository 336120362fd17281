-- What a store begins with: an image in memory, and the state of which it is one.
use Rattle.std.specs.Prelude.{List}
use Rattle.ut_image.specs.declared.drawn.Drawn.{Drawn}
use Rattle.ut_main.specs.Parts.{MainValue}
use Rattle.ut_plain.specs.State.{State}
use Rattle.ut_plain.specs.Capture.{Directory}
use Rattle.ut_pages.specs.declared.root.Root.{Root}
use Rattle.ut_pages.specs.Layout.{IsRoot}
use Rattle.ut_durable.specs.Rules.{IsDirectory}
use Rattle.ut_durable.specs.Directories.{IsBase}
use Rattle.ut_reading.specs.Reading.{Show}

-- A root, and tables and mains that show a directory: they are the image of this state.
pub record BeginsWith (root : Root) (tables : List Drawn) (mains : List MainValue) (d : Directory) (s : State) : Type 0 where
  pub rules : IsRoot root
  pub shown : Show tables mains d
  pub directory : IsDirectory root.next root.commits d
  pub base : IsBase root d s
