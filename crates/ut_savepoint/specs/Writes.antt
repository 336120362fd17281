-- Pages in memory as those that are to be written.
use Rattle.std.specs.Prelude.{List, [], ◌∷◌}
use Rattle.ut_durable.specs.Saving.{Planned}
use Rattle.ut_savepoint.specs.declared.cut.PageWrite.{PageWrite}

-- a page in memory as one that is to be written
abbrev pub planned_write : PageWrite → Planned
planned_write write = record { n = write.page; next = write.next; payload = write.bytes.items }

-- pages in memory, in order
abbrev pub planned_in : List PageWrite → List Planned
planned_in [] = []
planned_in (write ∷ writes) = planned_write write ∷ planned_in writes
