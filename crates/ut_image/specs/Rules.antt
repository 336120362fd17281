-- Which tables a directory may have.
use Rattle.std.specs.Prelude.{ℕ, ◌≡◌, ◌≢◌, ◌≤◌, ◌<◌, Bool, true, ◌&&◌, not, nat_lt, nat_le, nat_eq, List, [], ◌∷◌, ◌++◌, length, map, IsTrue}
use Rattle.std.specs.List.{flat_map, list_all, list_any, All, AllPairs}
use Rattle.ut_value.specs.declared.value.Column.{Column}
use Rattle.ut_value.specs.declared.value.Kind.{Kind}
use Rattle.ut_value.specs.declared.value.Row.{Row}
use Rattle.ut_value.specs.declared.value.Value.{Value}
use Rattle.ut_value.specs.KeyBytes.{is_value, is_of_kind}
use Rattle.ut_value.specs.Text.{is_name, same_bytes}
use Rattle.ut_value.specs.Spelling.{is_u32, are_columns}
use Rattle.ut_plain.specs.Tables.{fits_columns}
use Rattle.ut_plain.specs.declared.table.Table.{Table}
use Rattle.ut_image.specs.Bytes.{image_bytes}
use Rattle.ut_image.specs.declared.drawn.PartRef.{PartRef}
use Rattle.ut_image.specs.declared.drawn.Drawn.{Drawn}

-- whether a value is of this kind, and keeps its rule
abbrev pub is_cell : Kind → Value → Bool
is_cell kind v = is_of_kind kind v && is_value v

-- whether there is one value for each column, of its kind
abbrev pub are_cells : List Column → List Value → Bool
are_cells columns vs = fits_columns columns vs && list_all is_value vs

-- whether a row has an id of 32 bits, and a value for each column
abbrev pub is_row : List Column → Row → Bool
is_row columns r = is_u32 r.id && are_cells columns r.values

-- whether these are rows of these columns, and their number has 32 bits
abbrev pub are_rows : List Column → List Row → Bool
are_rows columns rs = is_u32 (length rs) && list_all (is_row columns) rs

-- whether a number has 64 bits
abbrev pub is_u64 : ℕ → Bool
is_u64 n = nat_lt n 18446744073709551616

-- whether a part has a mark for each row
abbrev pub is_part : PartRef → Bool
is_part p = is_u32 p.first && (is_u64 p.length && (is_u32 p.rows && nat_eq (length p.live) p.rows))

-- whether there are at most eight such parts
abbrev pub are_parts : List PartRef → Bool
are_parts ps = nat_le (length ps) 8 && list_all is_part ps

-- whether a table has a name, and one to 64 columns of different names
abbrev pub is_head : Table → Bool
is_head t = is_name t.name && are_columns t.columns

-- whether a table of a directory keeps these rules
abbrev pub is_drawn : Drawn → Bool
is_drawn d = is_head d.table && (are_parts d.parts && (are_rows d.table.columns d.l2 && are_rows d.table.columns d.l1))

-- whether a table has this name
abbrev pub has_drawn : List Drawn → List ℕ → Bool
has_drawn ds name = list_any (λ d. same_bytes d.table.name name) ds

-- whether no two tables have one name
abbrev pub drawn_differ : List Drawn → Bool
drawn_differ [] = true
drawn_differ (d ∷ ds) = not (has_drawn ds d.table.name) && drawn_differ ds

-- the ids of the rows of a table's deltas
abbrev pub ids_in : Drawn → List ℕ
ids_in d = map (λ r. r.id) d.l2 ++ map (λ r. r.id) d.l1

-- those of all tables
abbrev pub ids_of : List Drawn → List ℕ
ids_of ds = flat_map ids_in ds

-- ids of rows, each from 1 to the one before the next, and no two equal
abbrev pub AreOwnIds : ℕ → List ℕ → Type 0
AreOwnIds next ids = All (λ id. (1 ≤ id) × (id < next)) ids × AllPairs (λ a b. a ≢ b) ids

-- the directory's tables may be these, where the next row id is `next` and there were so many commits
pub record AreDrawn (next commits : ℕ) (ds : List Drawn) : Type 0 where
  pub few : length ds ≤ 256
  pub begun : length ds ≤ commits
  pub each : IsTrue (list_all is_drawn ds)
  pub names : IsTrue (drawn_differ ds)
  pub ids : AreOwnIds next (ids_of ds)

-- the bytes are those of one list of tables at most
abbrev pub OneImage : Type 0
OneImage = (next commits : ℕ) (a b : List Drawn) → AreDrawn next commits a → AreDrawn next commits b → image_bytes a ≡ image_bytes b → a ≡ b
