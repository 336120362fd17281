-- What is no entry, by the part that fails; and an entry at the front of bytes.
use Rattle.std.proofs.Common.{◌≡◌, ℕ, ◌-◌, ◌<◌, ◌≤◌, ◌^◌, min, List, ◌∷◌, ◌++◌, length, take, drop, false, true≢false, IsTrue, refl, sym, ◌∙◌, ap, arith, append_assoc, le-leb, leb-true, take-append-drop}
use Rattle.std.specs.Prelude.{◌&&◌, nat_le}
use Rattle.std.specs.Int.{w32, to_le_bytes}
use Rattle.std.specs.List.{flat_map, list_all}
use Rattle.std.proofs.lemmas.List.{take_at, length-append, length-take}
use Rattle.std.proofs.Common.{take-take}
use Rattle.ut_value.specs.declared.value.Column.{Column}
use Rattle.ut_value.specs.declared.entry.Op.{Op}
use Rattle.ut_value.specs.declared.entry.Entry.{Entry}
use Rattle.ut_value.specs.declared.entry.Entry.TheVariants as entries
use Rattle.ut_value.specs.Text.{is_name}
use Rattle.ut_value.specs.Spelling.{text_spelling, column_spelling, columns_spelling, op_spelling, spelling, entry_len, is_column, names_differ, are_columns, is_op, is_entry, has_spelling, Spells}
use Rattle.ut_value.specs.Reading.{Begins, BeginsNone}
use Rattle.ut_value.proofs.SpellingLengths.{entry_length}
use Rattle.ut_value.proofs.OneSpelling.{both, first, others, one_text, one_u32, one_column, one_list, columns_rule, entry_rule, few_ops}

-- columns of equal names
pub columns_refused : (cs : List Column) (count : ℕ) (rest behind bytes : List ℕ) → bytes ≡ count ∷ rest → length cs ≡ count → IsTrue (list_all is_column cs)
    → rest ≡ flat_map column_spelling cs ++ behind → names_differ cs ≡ false → BeginsNone columns_spelling are_columns bytes
columns_refused cs count rest behind bytes is long each parts twice x after begins =
    let same = sym is ∙ begins.1 in
    let rule = columns_rule x begins.0 in
    let one = one_list column_spelling is_column one_column cs x behind after (long ∙ ap first same) each rule.1 (sym parts ∙ ap others same) in
    true≢false (sym rule.2 ∙ ap names_differ (sym one.0) ∙ twice)

-- behind a Create's first byte
create_parts : (entry : Entry) (bytes after : List ℕ) → Begins spelling has_spelling (1 ∷ bytes) entry after
    → (name : List ℕ) × (cs : List Column) × IsTrue (is_name name) × IsTrue (are_columns cs) × (bytes ≡ text_spelling name ++ (columns_spelling cs ++ after))
create_parts (entries.Create name cs) bytes after begins =
    let rule = both (is_name name) (are_columns cs) (entry_rule (entries.Create name cs) begins.0).0 in
    (name, cs, rule.0, rule.1, ap others begins.1 ∙ append_assoc (text_spelling name) (columns_spelling cs) after)
create_parts (entries.Txn os) bytes after begins = absurd (omega (arith, ap first begins.1))
create_parts (entries.Begun n table kind) bytes after begins = absurd (omega (arith, ap first begins.1))
create_parts (entries.Ended n) bytes after begins = absurd (omega (arith, ap first begins.1))

pub no_name : (bytes : List ℕ) → BeginsNone text_spelling is_name bytes → BeginsNone spelling has_spelling (1 ∷ bytes)
no_name bytes none entry after begins =
    let parts = create_parts entry bytes after begins in
    none parts.0 (columns_spelling parts.1 ++ after) (parts.2, parts.4)

pub no_columns : (name rest bytes : List ℕ) → bytes ≡ text_spelling name ++ rest → BeginsNone columns_spelling are_columns rest → BeginsNone spelling has_spelling (1 ∷ bytes)
no_columns name rest bytes is none entry after begins =
    let parts = create_parts entry bytes after begins in
    let one = one_text name parts.0 rest (columns_spelling parts.1 ++ after) (sym is ∙ parts.4) in
    none parts.1 after (parts.3, one.1)

-- behind a Txn's first byte
txn_parts : (entry : Entry) (count : ℕ) (bytes rest after : List ℕ) → count < 2 ^ 32 → bytes ≡ to_le_bytes w32 count ++ rest → Begins spelling has_spelling (2 ∷ bytes) entry after
    → (os : List Op) × (length os ≡ count) × IsTrue (nat_le 1 (length os)) × IsTrue (list_all is_op os) × (rest ≡ flat_map op_spelling os ++ after)
txn_parts (entries.Create name cs) count bytes rest after few is begins = absurd (omega (arith, ap first begins.1))
txn_parts (entries.Txn os) count bytes rest after few is begins =
    let rule = entry_rule (entries.Txn os) begins.0 in
    let parts = both (nat_le 1 (length os)) (list_all is_op os) rule.0 in
    let one = one_u32 (length os) count (flat_map op_spelling os ++ after) rest (omega (arith, few_ops os, rule.1)) few (sym (ap others begins.1) ∙ is) in
    (os, one.0, parts.0, parts.1, sym one.1)
txn_parts (entries.Begun n table kind) count bytes rest after few is begins = absurd (omega (arith, ap first begins.1))
txn_parts (entries.Ended n) count bytes rest after few is begins = absurd (omega (arith, ap first begins.1))

pub no_count : (count : ℕ) (bytes rest : List ℕ) → count < 2 ^ 32 → bytes ≡ to_le_bytes w32 count ++ rest → count ≡ 0 → BeginsNone spelling has_spelling (2 ∷ bytes)
no_count count bytes rest few is nothing entry after begins =
    let parts = txn_parts entry count bytes rest after few is begins in
    omega (arith, leb-true 1 (length parts.0) parts.2, parts.1, nothing)

pub no_ops : (count : ℕ) (bytes rest : List ℕ) → count < 2 ^ 32 → bytes ≡ to_le_bytes w32 count ++ rest
    → ((os : List Op) (after : List ℕ) → length os ≡ count → IsTrue (list_all is_op os) → rest ≡ flat_map op_spelling os ++ after → ⊥) → BeginsNone spelling has_spelling (2 ∷ bytes)
no_ops count bytes rest few is none entry after begins =
    let parts = txn_parts entry count bytes rest after few is begins in
    none parts.0 after parts.1 parts.3 parts.4

-- the entry that begins the first bytes begins the bytes
pub entry_found : (bytes rest : List ℕ) (m : ℕ) (entry : Entry) → m ≡ min (length bytes) (2 ^ 30) → Begins spelling is_entry (take m bytes) entry rest
    → (length (take m bytes) - length rest ≤ length bytes) × Spells (take (length (take m bytes) - length rest) bytes) entry
entry_found bytes rest m entry at begins =
    let n = length (take m bytes) - length rest in
    let whole : length (take m bytes) ≡ m = omega (arith, length-take m bytes, at) in
    let long : n ≡ length (spelling entry) = omega (arith, ap length begins.1, length-append (spelling entry) rest) in
    let small : entry_len entry ≤ 2 ^ 30 = omega (arith, entry_length entry, long, whole, at) in
    let front : take n bytes ≡ take n (take m bytes) = sym (take-take n m bytes (omega (arith, whole))) in
    (omega (arith, whole, at), ((λ i. begins.0 i && le-leb (entry_len entry) (2 ^ 30) small i), front ∙ ap (take n) begins.1 ∙ take_at (spelling entry) rest n (sym long)))

none_spelled : (bytes : List ℕ) (m : ℕ) → m ≡ min (length bytes) (2 ^ 30) → BeginsNone spelling has_spelling (take m bytes)
    → (n : ℕ) (entry : Entry) → n ≤ length bytes → Spells (take n bytes) entry → ⊥
none_spelled bytes m at none n entry within spells =
    let long : n ≡ entry_len entry = omega (arith, ap length spells.1, entry_length entry, length-take n bytes, within) in
    let small : entry_len entry ≤ 2 ^ 30 = (entry_rule entry spells.0).1 in
    let front : take n (take m bytes) ≡ take n bytes = take-take n m bytes (omega (arith, long, small, within, at)) in
    none entry (drop n (take m bytes)) (spells.0, sym (take-append-drop n (take m bytes)) ∙ ap (λ (l : List ℕ). l ++ drop n (take m bytes)) (front ∙ spells.1))

-- where no entry begins the first bytes, none begins the bytes
pub no_entry : (bytes : List ℕ) (m : ℕ) → m ≡ min (length bytes) (2 ^ 30) → BeginsNone spelling has_spelling (take m bytes) → BeginsNone spelling has_spelling bytes
no_entry bytes m at none entry rest begins =
    let n = length (spelling entry) in
    let within : n ≤ length bytes = omega (arith, ap length begins.1, length-append (spelling entry) rest) in none_spelled bytes m at none n entry within (begins.0, ap (take n) begins.1 ∙ take_at (spelling entry) rest n refl)
