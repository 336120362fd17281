-- What the steps have of writing and reading a directory: the lengths of its parts, and single bits.
use Rattle.std.specs.Prelude.{ℕ, ◌+◌, ◌/◌, ◌%◌, ◌^◌, Bool, nat_eq, List, slice_index, length, map}
use Rattle.std.specs.List.{sum_by, range_with_len}
use Rattle.ut_value.specs.declared.value.Value.{Value}
use Rattle.ut_value.specs.declared.value.Value.TheVariants as values
use Rattle.ut_value.specs.declared.value.Row.{Row}
use Rattle.ut_value.specs.Spelling.{column_len}
use Rattle.ut_plain.specs.declared.table.Table.{Table}
use Rattle.ut_image.specs.declared.drawn.PartRef.{PartRef}
use Rattle.ut_image.specs.Bytes.{marks_len}

-- of a value
abbrev pub cell_len : Value → ℕ
cell_len (values.Int x) = 8
cell_len (values.Text bytes) = length bytes + 1

-- of a row
abbrev pub row_len : Row → ℕ
row_len r = sum_by cell_len r.values + 4

-- of rows behind their number
abbrev pub rows_len : List Row → ℕ
rows_len rs = sum_by row_len rs + 4

-- of a part
abbrev pub part_len : PartRef → ℕ
part_len p = marks_len (length p.live) + 16

-- of a table's name, columns and parts
abbrev pub front_len : Table → List PartRef → ℕ
front_len t ps = length t.name + sum_by column_len t.columns + sum_by part_len ps + 3

-- of a table
abbrev pub drawn_len : Table → List PartRef → List Row → List Row → ℕ
drawn_len t ps l2 l1 = front_len t ps + rows_len l2 + rows_len l1

-- whether bit number i of the bytes is set
abbrev pub bit_in : List ℕ → ℕ → Bool
bit_in bytes i = nat_eq (slice_index bytes (i / 8) / 2 ^ (i % 8) % 2) 1

-- so many bits of the bytes, the first ones
unfoldable pub first_bits : ℕ → List ℕ → List Bool
first_bits n bytes = map (bit_in bytes) (range_with_len 0 n)
