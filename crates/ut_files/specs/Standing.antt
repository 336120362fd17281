-- What the files of a disk that is in use keep.
use Rattle.std.specs.Prelude.{◌≡◌, true, false, Option}
use Rattle.ut_outside.specs.declared.disk.Which.{Which}
use Rattle.ut_outside.specs.declared.disk.Which.TheVariants.{Pages}
use Rattle.ut_files.specs.declared.file_set.FileSet.{FileSet}
use Rattle.ut_files.specs.declared.files.Hold.{Hold}
use Rattle.ut_files.specs.declared.files.Hold.TheVariants.{Unsought, Missing, Held, Lost}
use Rattle.ut_files.specs.FileSets.{is_in}
use Rattle.ut_files.specs.Deeds.{Done, AreFilled, IsHeld, IsMissing, IsNamed}

-- what was done in the folder, and what is noted of it
pub record Files : Type 0 where
  pub done : Option Done
  pub hold : Hold
  -- the files that are open, with names that are durable
  pub named : FileSet

-- how the page file stands
abbrev pub HoldsStore : Hold → Option Done → FileSet → Type 0
HoldsStore Held d named = AreFilled d × IsHeld d × (is_in Pages named ≡ true)
HoldsStore Missing d named = AreFilled d × IsMissing Pages d × (is_in Pages named ≡ false)
HoldsStore _ d named = is_in Pages named ≡ false

-- the page file was sought, and is locked where it is there
abbrev pub IsSought : Hold → Type 0
IsSought Held = Unit {0}
IsSought Missing = Unit {0}
IsSought _ = ⊥

-- what is noted says no more than was done
pub record Stands (files : Files) : Type 0 where
  pub store : HoldsStore files.hold files.done files.named
  pub names : (file : Which) → is_in file files.named ≡ true → IsNamed file files.done
