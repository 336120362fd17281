-- Columns of a table by their places.
use Rattle.std.specs.Prelude.{◌<◌, List, length, All}
use Rattle.ut_value.specs.declared.value.Column.{Column}
use Rattle.ut_names.specs.declared.resolved.Columns.{Columns}
use Rattle.ut_names.specs.declared.resolved.Columns.TheVariants as places

-- the table has columns at these places
abbrev pub AreWithin : List Column → Columns → Type 0
AreWithin columns places.All = Unit {0}
AreWithin columns (places.Named list) = All (λ place. place < length columns) list.items
