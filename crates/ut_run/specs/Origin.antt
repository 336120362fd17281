-- What a run begins with.
use Rattle.std.specs.Prelude.{ℕ, ◌≡◌, List, length}
use Rattle.ut_outside.specs.Disk.{Image}
use Rattle.ut_pages.specs.Layout.{IsMade}
use Rattle.ut_plain.specs.Journal.{Journal, empty_journal}
use Rattle.ut_plain.specs.Capture.{Directory}
use Rattle.ut_plain.specs.Plain.{Plain, Opening, no_image, opened_store}
use Rattle.ut_durable.specs.Bytes.{image_pages}
use Rattle.ut_engine.specs.Runs.{Says, opening_of}
use Rattle.ut_run.specs.declared.start.Start.{Start}
use Rattle.ut_run.specs.declared.start.Start.TheVariants.{New, Open}

-- a journal, and what the store opens with beside it
pub record Origin : Type 0 where
  pub journal : Journal
  pub opening : Opening

-- the empty journal, and no image
abbrev pub fresh : Origin
fresh = record { journal = empty_journal; opening = no_image image_pages }

-- the plain state of the store as it is opened, for so many rows at most
abbrev pub opened : Origin → ℕ → Plain
opened o rows = opened_store o.opening o.journal rows

-- The files say so: their selected root has an image, on so many pages, and it and the log have the journal.
pub record IsSaid (o : Origin) (c : Image) : Type 0 where
  -- the image's directory, and the pages that the root reaches
  pub directory : Directory
  pub reached : List ℕ
  pub says : Says o.journal directory reached c
  pub opening : o.opening ≡ opening_of directory (length reached)

-- what a run begins with: nothing of a store that isn't made yet, or what the files say
abbrev pub Begins : Start → Origin → Image → Type 0
Begins New o c = (o ≡ fresh) × (IsMade c.pages → ⊥)
Begins Open o c = IsSaid o c
