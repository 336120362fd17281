-- Which error an opening gives for one of a layer below, and when a making may not write.
use Rattle.std.specs.Prelude.{◌⊎◌, Result, IsErrOf}
use Rattle.ut_outside.specs.Disk.{View, IsTold}
use Rattle.ut_pages.specs.Layout.{IsMade}
use Rattle.ut_redo.specs.declared.error.RedoError.{RedoError}
use Rattle.ut_redo.specs.declared.error.RedoError.TheVariants as redo
use Rattle.ut_pages.specs.declared.chain.PageError.{PageError}
use Rattle.ut_pages.specs.declared.chain.PageError.TheVariants as pages
use Rattle.ut_restart.specs.declared.error.RestartError.{RestartError}
use Rattle.ut_restart.specs.declared.error.RestartError.TheVariants as restart
use Rattle.ut_engine.specs.declared.error.OpenError.{OpenError}
use Rattle.ut_engine.specs.declared.error.OpenError.TheVariants as opening

-- the error of an opening that couldn't read the log
abbrev pub of_redo : RedoError → OpenError
of_redo redo.Damaged = opening.Damaged
of_redo redo.Disk = opening.Disk
of_redo redo.Memory = opening.Memory

-- the error of an opening that couldn't read the page file
abbrev pub of_page : PageError → OpenError
of_page pages.Damaged = opening.Damaged
of_page pages.Disk = opening.Disk
of_page pages.Memory = opening.Memory

-- the error of an opening that couldn't build the state
abbrev pub of_restart : RestartError → OpenError
of_restart restart.Damaged = opening.Damaged
of_restart restart.Memory = opening.Memory

-- A making may not write where no memory was found for the store, nor where the files are one already.
abbrev pub MayOnlyRead : {T : Type 0} → Result T OpenError → View → Type 0
MayOnlyRead result before = IsErrOf result opening.Memory ⊎ (IsTold before × IsMade before.seen.pages)
