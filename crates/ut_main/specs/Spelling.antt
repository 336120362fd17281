-- The bytes of a part: the number of its rows, their ids, and for each column its own dictionary and its code vector.
use Rattle.std.specs.Prelude.{◌≡◌, ℕ, suc, ◌+◌, ◌<◌, ◌≤◌, All, Bool, ◌&&◌, IsTrue, nat_eq, nat_lt, List, [], ◌∷◌, ◌++◌, length, map, get_or}
use Rattle.std.specs.List.{flat_map, list_all}
use Rattle.ut_bits.specs.Words.{word_bytes}
use Rattle.ut_codes.specs.Forms.{code_bytes}
use Rattle.ut_l2.specs.KeyRows.{KeyRow, cells_at}
use Rattle.ut_own.specs.Own.{own_dict}
use Rattle.ut_prefix.specs.Chain.{end_to_end}
use Rattle.ut_prefix.specs.Spelling.{dict_bytes}
use Rattle.ut_value.specs.Text.{is_text}
use Rattle.ut_value.specs.declared.value.Column.{Column}
use Rattle.ut_value.specs.declared.value.Kind.{Kind}
use Rattle.ut_value.specs.declared.value.Kind.TheVariants.{Int, Text}
use Rattle.ut_main.specs.Columns.{Chain, ColumnValue, vector_of}
use Rattle.ut_main.specs.Parts.{PartValue, MainValue, AreWide, dicts_behind, rows_in}

-- the number of ids and the ids, four bytes each
abbrev pub id_bytes : List ℕ → List ℕ
id_bytes ids = word_bytes (length ids) ++ flat_map word_bytes ids

-- a column: its own dictionary and its code vector
unfoldable pub column_bytes : ColumnValue → List ℕ
column_bytes c =
    dict_bytes (own_dict (end_to_end c.before) c.cells)
    ++ code_bytes (vector_of c.before c.cells).codes (vector_of c.before c.cells).reach

-- the columns of rows behind dictionaries, from column j on
abbrev pub columns_from : ℕ → List Chain → List KeyRow → List ColumnValue
columns_from j [] rows = []
columns_from j (before ∷ more) rows = record { before = before; cells = cells_at j rows } ∷ columns_from (suc j) more rows

-- the columns of a part
abbrev pub columns_of : PartValue → List ColumnValue
columns_of part = columns_from 0 part.before part.rows

-- the bytes of a part: a function of its rows and of the dictionaries before it
abbrev pub part_bytes : PartValue → List ℕ
part_bytes part = id_bytes (map (λ r. r.id) part.rows) ++ flat_map column_bytes (columns_of part)

-- ---- what a part's bytes may hold

-- ids are 1 to 2^31
abbrev pub AreIds : List ℕ → Type 0
AreIds ids = All (λ id. (1 ≤ id) × (id ≤ 2147483648)) ids

-- whether bytes are a key of a kind: eight for a number, else a text
abbrev pub is_key : Kind → List ℕ → Bool
is_key Int key = nat_eq (length key) 8 && list_all (λ b. nat_lt b 256) key
is_key Text key = is_text key

-- all of these are keys of a kind
abbrev pub AreKeys : Kind → List (List ℕ) → Type 0
AreKeys kind keys = All (λ key. IsTrue (is_key kind key)) keys

-- the kind of a column
abbrev pub kind_at : ℕ → List Column → Kind
kind_at j columns = get_or (map (λ c. c.kind) columns) j Int

-- the keys of rows are of their columns' kinds
abbrev pub HaveKinds : List Column → List KeyRow → Type 0
HaveKinds columns rows = (j : ℕ) → j < length columns → AreKeys (kind_at j columns) (cells_at j rows)

-- a part that may stand behind main: its rows' ids and number are in range, and its new keys are of their columns' kinds
pub record MayStand (columns : List Column) (main : MainValue) (part : PartValue) : Type 0 where
  pub before : part.before ≡ dicts_behind main
  pub wide : AreWide main.width part.rows
  pub few : rows_in main + length part.rows ≤ 2147483647
  pub ids : AreIds (map (λ r. r.id) part.rows)
  pub kinds : (j : ℕ) → j < length columns
      → AreKeys (kind_at j columns) (own_dict (end_to_end (get_or part.before j [])) (cells_at j part.rows))
