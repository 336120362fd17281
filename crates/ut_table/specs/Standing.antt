-- A row as its stage holds it.
use Rattle.std.specs.Prelude.{List, length, get_or}
use Rattle.ut_value.specs.declared.value.Column.{Column}
use Rattle.ut_value.specs.declared.value.Value.{Value}
use Rattle.ut_l2.specs.KeyRows.{no_row}
use Rattle.ut_table.specs.declared.standing.Standing.{Standing}
use Rattle.ut_table.specs.declared.standing.Standing.TheVariants as standings
use Rattle.ut_table.specs.Decoded.{decoded_keys}
use Rattle.ut_table.specs.Kept.{IsRow, HoldsRow}

-- the row's values
abbrev pub values_held : List Column → Standing → List Value
values_held columns (standings.Row row) = row.now.values
values_held columns (standings.Delta l2 i) = decoded_keys columns (get_or l2.now.rows i no_row).keys
values_held columns (standings.Part part i) = decoded_keys columns (get_or part.now.rows i no_row).keys

-- the row is there, and fits the columns
abbrev pub Stands : List Column → Standing → Type 0
Stands columns (standings.Row row) = IsRow columns row.now
Stands columns (standings.Delta l2 i) = HoldsRow columns l2.now.width l2.now.rows i
Stands columns (standings.Part part i) = HoldsRow columns (length part.now.before) part.now.rows i
