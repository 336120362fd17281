-- Sets of the store's files.
use Rattle.std.specs.Prelude.{Bool, true}
use Rattle.ut_outside.specs.declared.disk.Which.{Which}
use Rattle.ut_outside.specs.declared.disk.Which.TheVariants.{Redo, Pages, Redo2}
use Rattle.ut_files.specs.declared.file_set.FileSet.{FileSet}

-- whether a file is in the set
abbrev pub is_in : Which → FileSet → Bool
is_in Redo set = set.redo
is_in Pages set = set.pages
is_in Redo2 set = set.redo2

-- the set with this file
abbrev pub with_file : Which → FileSet → FileSet
with_file Redo set = record set { redo = true }
with_file Pages set = record set { pages = true }
with_file Redo2 set = record set { redo2 = true }
