-- A row that enters, as an operation.
use Rattle.ut_value.specs.declared.entry.Op.{Op}
use Rattle.ut_value.specs.declared.entry.Op.TheVariants.{Insert}
use Rattle.ut_change.specs.declared.entering.Entering.{Entering}

-- its insert
abbrev pub insert_of : Entering → Op
insert_of e = Insert e.table e.id e.values
