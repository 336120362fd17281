-- The bytes of an image's directory: its tables with the places of their parts, and the rows of their deltas.
use Rattle.std.specs.Prelude.{ℕ, ◌+◌, ◌*◌, ◌/◌, Bool, cond, List, [], ◌∷◌, ◌++◌, length, map, take, drop}
use Rattle.std.specs.Int.{w32, w64, to_le_bytes}
use Rattle.std.specs.List.{flat_map, range_with_len}
use Rattle.ut_value.specs.declared.value.Value.{Value}
use Rattle.ut_value.specs.declared.value.Value.TheVariants as values
use Rattle.ut_value.specs.declared.value.Row.{Row}
use Rattle.ut_value.specs.KeyBytes.{int_key}
use Rattle.ut_value.specs.Spelling.{text_spelling, columns_spelling}
use Rattle.ut_plain.specs.declared.table.Table.{Table}
use Rattle.ut_image.specs.declared.drawn.PartRef.{PartRef}
use Rattle.ut_image.specs.declared.drawn.Drawn.{Drawn}

-- a value in a row of an image: the key bytes of a number, or a text
abbrev pub cell_bytes : Value → List ℕ
cell_bytes (values.Int x) = int_key x
cell_bytes (values.Text bytes) = text_spelling bytes

-- a row: its id and its values
abbrev pub row_bytes : Row → List ℕ
row_bytes r = to_le_bytes w32 r.id ++ flat_map cell_bytes r.values

-- rows: their number, and each
abbrev pub rows_bytes : List Row → List ℕ
rows_bytes rs = to_le_bytes w32 (length rs) ++ flat_map row_bytes rs

-- up to eight marks as one byte, the first as the lowest bit
abbrev pub mark_byte : List Bool → ℕ
mark_byte [] = 0
mark_byte (mark ∷ marks) = cond mark 1 0 + 2 * mark_byte marks

-- how many bytes have so many marks
abbrev pub marks_len : ℕ → ℕ
marks_len n = (n + 7) / 8

-- marks: byte k has eight of them, from mark 8k on
unfoldable pub mark_bytes : List Bool → List ℕ
mark_bytes marks = map (λ k. mark_byte (take 8 (drop (8 * k) marks))) (range_with_len 0 (marks_len (length marks)))

-- a part: its first page, how many bytes and rows it has, and which rows are live
abbrev pub part_bytes : PartRef → List ℕ
part_bytes p = to_le_bytes w32 p.first ++ (to_le_bytes w64 p.length ++ (to_le_bytes w32 p.rows ++ mark_bytes p.live))

-- parts: their number, and each
abbrev pub parts_bytes : List PartRef → List ℕ
parts_bytes ps = length ps ∷ flat_map part_bytes ps

-- a table's name and columns
abbrev pub head_bytes : Table → List ℕ
head_bytes t = text_spelling t.name ++ columns_spelling t.columns

-- a table: its name and columns, its parts, the rows of the second delta, and those of the first
abbrev pub drawn_bytes : Drawn → List ℕ
drawn_bytes d = head_bytes d.table ++ (parts_bytes d.parts ++ (rows_bytes d.l2 ++ rows_bytes d.l1))

-- the directory: the number of tables, and each
abbrev pub image_bytes : List Drawn → List ℕ
image_bytes ds = to_le_bytes w32 (length ds) ++ flat_map drawn_bytes ds
