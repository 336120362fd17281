-- The spelling of values, names, columns, operations and journal entries as bytes.
use Rattle.std.specs.Prelude.{◌≡◌, ℕ, ◌+◌, Bool, true, ◌&&◌, not, nat_lt, nat_le, List, [], ◌∷◌, ◌++◌, length, IsTrue}
use Rattle.std.specs.Int.{w16, w32, to_le_bytes}
use Rattle.std.specs.List.{flat_map, list_all, list_any, sum_by}
use Rattle.ut_value.specs.declared.value.Kind.{Kind}
use Rattle.ut_value.specs.declared.value.Kind.TheVariants as kinds
use Rattle.ut_value.specs.declared.value.Value.{Value}
use Rattle.ut_value.specs.declared.value.Value.TheVariants as values
use Rattle.ut_value.specs.declared.value.Column.{Column}
use Rattle.ut_value.specs.declared.entry.MergeKind.{MergeKind}
use Rattle.ut_value.specs.declared.entry.MergeKind.TheVariants as merges
use Rattle.ut_value.specs.declared.entry.Op.{Op}
use Rattle.ut_value.specs.declared.entry.Op.TheVariants as ops
use Rattle.ut_value.specs.declared.entry.Entry.{Entry}
use Rattle.ut_value.specs.declared.entry.Entry.TheVariants as entries
use Rattle.ut_value.specs.KeyBytes.{int_key, is_value}
use Rattle.ut_value.specs.Text.{is_name, same_bytes}

-- ---- how each thing is spelled

-- a text or a name: its length in one byte, and its bytes
abbrev pub text_spelling : List ℕ → List ℕ
text_spelling bytes = length bytes ∷ bytes

-- a value: 0 and the key bytes of a number, or 1 and a text
abbrev pub value_spelling : Value → List ℕ
value_spelling (values.Int x) = 0 ∷ int_key x
value_spelling (values.Text bytes) = 1 ∷ text_spelling bytes

-- the byte of a column's kind
abbrev pub kind_byte : Kind → ℕ
kind_byte kinds.Int = 0
kind_byte kinds.Text = 1

-- a column: its kind and its name
abbrev pub column_spelling : Column → List ℕ
column_spelling c = kind_byte c.kind ∷ text_spelling c.name

-- the values of a row: their number in one byte, and each
abbrev pub values_spelling : List Value → List ℕ
values_spelling vs = length vs ∷ flat_map value_spelling vs

-- the columns of a table: their number in one byte, and each
abbrev pub columns_spelling : List Column → List ℕ
columns_spelling cs = length cs ∷ flat_map column_spelling cs

-- the place of a row: its table in two bytes and its id in four
abbrev pub place_spelling : ℕ → ℕ → List ℕ
place_spelling table id = to_le_bytes w16 table ++ to_le_bytes w32 id

-- an operation: 1, the place and the values of an inserted row, or 2 and the place of a deleted one
abbrev pub op_spelling : Op → List ℕ
op_spelling (ops.Insert table id vs) = 1 ∷ (place_spelling table id ++ values_spelling vs)
op_spelling (ops.Delete table id) = 2 ∷ place_spelling table id

-- operations: their number in four bytes, and each
abbrev pub ops_spelling : List Op → List ℕ
ops_spelling os = to_le_bytes w32 (length os) ++ flat_map op_spelling os

-- the byte of a merge's kind
abbrev pub merge_kind_byte : MergeKind → ℕ
merge_kind_byte merges.Classic = 0
merge_kind_byte merges.Resort = 1
merge_kind_byte merges.Partial = 2
merge_kind_byte merges.Extend = 3

-- an entry: the byte of its case, and its parts in order
abbrev pub spelling : Entry → List ℕ
spelling (entries.Create name columns) = 1 ∷ (text_spelling name ++ columns_spelling columns)
spelling (entries.Txn os) = 2 ∷ ops_spelling os
spelling (entries.Begun n table kind) = 3 ∷ (to_le_bytes w32 n ++ (to_le_bytes w16 table ++ merge_kind_byte kind ∷ []))
spelling (entries.Ended n) = 4 ∷ to_le_bytes w32 n

-- ---- how many bytes each spelling has

-- of a value
abbrev pub value_len : Value → ℕ
value_len (values.Int x) = 9
value_len (values.Text bytes) = length bytes + 2

-- of a column
abbrev pub column_len : Column → ℕ
column_len c = length c.name + 2

-- of an operation
abbrev pub op_len : Op → ℕ
op_len (ops.Insert table id vs) = sum_by value_len vs + 8
op_len (ops.Delete table id) = 7

-- of operations, one after the other
abbrev pub ops_len : List Op → ℕ
ops_len os = sum_by op_len os

-- of an entry
abbrev pub entry_len : Entry → ℕ
entry_len (entries.Create name columns) = length name + sum_by column_len columns + 3
entry_len (entries.Txn os) = ops_len os + 5
entry_len (entries.Begun n table kind) = 8
entry_len (entries.Ended n) = 5

-- ---- which have a spelling

-- one to so many
abbrev pub is_count : ℕ → ℕ → Bool
is_count most n = nat_le 1 n && nat_le n most

-- whether a number has 16 bits
abbrev pub is_u16 : ℕ → Bool
is_u16 n = nat_lt n 65536

-- whether a number has 32 bits
abbrev pub is_u32 : ℕ → Bool
is_u32 n = nat_lt n 4294967296

-- whether a column's name is a name
abbrev pub is_column : Column → Bool
is_column c = is_name c.name

-- whether a column has this name
abbrev pub has_column : List Column → List ℕ → Bool
has_column columns name = list_any (λ c. same_bytes c.name name) columns

-- whether no two columns have one name
abbrev pub names_differ : List Column → Bool
names_differ [] = true
names_differ (c ∷ cs) = not (has_column cs c.name) && names_differ cs

-- one to 64 columns, of different names
abbrev pub are_columns : List Column → Bool
are_columns cs = is_count 64 (length cs) && list_all is_column cs && names_differ cs

-- one to 64 values
abbrev pub are_values : List Value → Bool
are_values vs = is_count 64 (length vs) && list_all is_value vs

-- whether an insert has one to 64 values
abbrev pub are_few_values : Op → Bool
are_few_values (ops.Insert table id vs) = is_count 64 (length vs)
are_few_values (ops.Delete table id) = true

-- whether an operation has a spelling
abbrev pub is_op : Op → Bool
is_op (ops.Insert table id vs) = is_u16 table && is_u32 id && are_values vs
is_op (ops.Delete table id) = is_u16 table && is_u32 id

-- whether the parts of an entry keep their rules
abbrev pub is_entry : Entry → Bool
is_entry (entries.Create name columns) = is_name name && are_columns columns
is_entry (entries.Txn os) = nat_le 1 (length os) && list_all is_op os
is_entry (entries.Begun n table kind) = is_u32 n && is_u16 table
is_entry (entries.Ended n) = is_u32 n

-- whether an entry has a spelling: its parts keep their rules, and it has at most 2 ^ 30 bytes
abbrev pub has_spelling : Entry → Bool
has_spelling entry = is_entry entry && nat_le (entry_len entry) 1073741824

-- these bytes are the spelling of that entry
abbrev pub Spells : List ℕ → Entry → Type 0
Spells bytes entry = IsTrue (has_spelling entry) × (bytes ≡ spelling entry)
