-- How many bytes a spelling has.
use Rattle.std.proofs.Common.{◌≡◌, ℕ, List, length, ◌∙◌, arith, length-append, refl}
use Rattle.std.specs.List.{flat_map, sum_by}
use Rattle.std.proofs.lemmas.List.Concat.{length-flat_map}
use Rattle.ut_value.specs.declared.value.Value.{Value}
use Rattle.ut_value.specs.declared.value.Value.TheVariants as values
use Rattle.ut_value.specs.declared.value.Column.{Column}
use Rattle.ut_value.specs.declared.entry.Op.{Op}
use Rattle.ut_value.specs.declared.entry.Op.TheVariants as ops
use Rattle.ut_value.specs.declared.entry.Entry.{Entry}
use Rattle.ut_value.specs.declared.entry.Entry.TheVariants as entries
use Rattle.ut_value.specs.Spelling.{value_spelling, value_len, column_spelling, column_len, columns_spelling, op_spelling, op_len, ops_len, spelling, entry_len}

pub value_length : (v : Value) → length (value_spelling v) ≡ value_len v
value_length (values.Int x) = refl
value_length (values.Text bytes) = omega arith

pub column_length : (c : Column) → length (column_spelling c) ≡ column_len c
column_length c = omega arith

-- the lengths of pieces come together
pub pieces_length : {X : Type 0} (piece : X → List ℕ) (len : X → ℕ) → ((x : X) → length (piece x) ≡ len x) → (xs : List X) → length (flat_map piece xs) ≡ sum_by len xs
pieces_length piece len each xs = length-flat_map piece xs ∙ (λ i. sum_by (λ x. each x i) xs)

pub op_length : (op : Op) → length (op_spelling op) ≡ op_len op
op_length (ops.Insert table id vs) = omega (arith, pieces_length value_spelling value_len value_length vs)
op_length (ops.Delete table id) = refl

pub ops_length : (os : List Op) → length (flat_map op_spelling os) ≡ ops_len os
ops_length = pieces_length op_spelling op_len op_length

pub entry_length : (entry : Entry) → length (spelling entry) ≡ entry_len entry
entry_length (entries.Create name columns) = omega (arith, length-append name (columns_spelling columns), pieces_length column_spelling column_len column_length columns)
entry_length (entries.Txn os) = omega (arith, ops_length os)
entry_length (entries.Begun n table kind) = refl
entry_length (entries.Ended n) = refl
