-- What is no field, row, part or table, by the part that fails.
use Rattle.std.proofs.Common.{◌≡◌, ℕ, ◌<◌, ◌^◌, List, [], ◌∷◌, ◌++◌, length, IsTrue, refl, sym, ◌∙◌, ap, append_assoc, true≢false}
use Rattle.std.specs.Int.{w32, to_le_bytes}
use Rattle.std.specs.List.{flat_map, list_all}
use Rattle.std.proofs.lemmas.List.{append-nil, flat_map_more}
use Rattle.ut_value.specs.declared.value.Value.{Value}
use Rattle.ut_value.specs.declared.value.Column.{Column}
use Rattle.ut_value.specs.declared.value.Row.{Row}
use Rattle.ut_value.specs.Text.{is_name}
use Rattle.ut_value.specs.Spelling.{text_spelling, columns_spelling, are_columns}
use Rattle.ut_value.specs.Reading.{Begins, BeginsNone}
use Rattle.ut_value.proofs.OneSpelling.{first, others, one_text, one_u32}
use Rattle.ut_plain.specs.declared.table.Table.{Table}
use Rattle.ut_image.specs.declared.drawn.PartRef.{PartRef}
use Rattle.ut_image.specs.declared.drawn.Drawn.{Drawn}
use Rattle.ut_image.specs.Bytes.{cell_bytes, row_bytes, rows_bytes, part_bytes, parts_bytes, head_bytes, drawn_bytes}
use Rattle.ut_image.specs.Rules.{is_cell, are_cells, is_row, are_rows, is_part, are_parts, is_head, is_drawn}
use Rattle.ut_image.proofs.OneLemmas.{row_rule, row_parts, rows_rule, rows_parts, parts_rule, head_rule, head_parts, one_head, one_parts, one_rows, Split, split, cells_split, cells_join, one_cell}

-- ---- heads

pub no_name : (bytes : List ℕ) → BeginsNone text_spelling is_name bytes → BeginsNone head_bytes is_head bytes
no_name bytes none t x h = none t.name (columns_spelling t.columns ++ x) ((head_rule t h.0).0, head_parts t x bytes h.1)

pub no_columns : (name rest bytes : List ℕ) → bytes ≡ text_spelling name ++ rest → BeginsNone columns_spelling are_columns rest → BeginsNone head_bytes is_head bytes
no_columns name rest bytes is none t x h =
    let one = one_text name t.name rest (columns_spelling t.columns ++ x) (sym is ∙ head_parts t x bytes h.1) in
    none t.columns x ((head_rule t h.0).1, one.1)

-- ---- values and rows

pub no_cells : (columns : List Column) (id : ℕ) (rest bytes : List ℕ) → id < 2 ^ 32 → bytes ≡ to_le_bytes w32 id ++ rest → BeginsNone (flat_map cell_bytes) (are_cells columns) rest → BeginsNone row_bytes (is_row columns) bytes
no_cells columns id rest bytes fits is none r x h =
    let rule = row_rule columns r h.0 in
    let one = one_u32 id r.id rest (flat_map cell_bytes r.values ++ x) fits rule.0 (sym is ∙ row_parts r x bytes h.1) in
    none r.values x (rule.1, one.1)

pub no_rows : (columns : List Column) (count : ℕ) (rest bytes : List ℕ) → count < 2 ^ 32 → bytes ≡ to_le_bytes w32 count ++ rest
    → ((rs : List Row) (x : List ℕ) → length rs ≡ count → IsTrue (list_all (is_row columns) rs) → rest ≡ flat_map row_bytes rs ++ x → ⊥) → BeginsNone rows_bytes (are_rows columns) bytes
no_rows columns count rest bytes fits is none rs x h =
    let rule = rows_rule columns rs h.0 in
    let one = one_u32 count (length rs) rest (flat_map row_bytes rs ++ x) fits rule.0 (sym is ∙ rows_parts rs x bytes h.1) in
    none rs x (sym one.0) rule.1 one.1

-- ---- the values of a row, one after the other

-- the values so far stand at the front of the bytes, and values for all columns begin with them and go on with values for the columns that are left
pub record AreRead (columns left : List Column) (bytes : List ℕ) (items : List Value) (rest : List ℕ) : Type 0 where
  pub front : bytes ≡ flat_map cell_bytes items ++ rest
  pub back : (more : List Value) → IsTrue (are_cells left more) → IsTrue (are_cells columns (items ++ more))
  pub goes_on : (vs : List Value) (x : List ℕ) → IsTrue (are_cells columns vs) → bytes ≡ flat_map cell_bytes vs ++ x
      → (more : List Value) × (vs ≡ items ++ more) × IsTrue (are_cells left more) × (rest ≡ flat_map cell_bytes more ++ x)

-- values for a column and others begin with one for it
next_cell : (c : Column) (cs : List Column) (more : List Value) (x rest : List ℕ) → IsTrue (are_cells (c ∷ cs) more) → rest ≡ flat_map cell_bytes more ++ x
    → (v : Value) × (vs : List Value) × (more ≡ v ∷ vs) × IsTrue (are_cells cs vs) × Begins cell_bytes (is_cell c.kind) rest v (flat_map cell_bytes vs ++ x)
next_cell c cs [] x rest h is = absurd (true≢false (sym h))
next_cell c cs (v ∷ vs) x rest h is =
    let parts = cells_split c cs v vs h in
    (v, vs, refl, parts.1, (parts.0, is ∙ append_assoc (cell_bytes v) (flat_map cell_bytes vs) x))

pub one_read : (columns left : List Column) (bytes : List ℕ) (items : List Value) (rest : List ℕ) (c : Column) (cs : List Column) (v : Value) (behind : List ℕ)
    → AreRead columns left bytes items rest → left ≡ c ∷ cs → Begins cell_bytes (is_cell c.kind) rest v behind → AreRead columns cs bytes (items ++ v ∷ []) behind
one_read columns left bytes items rest c cs v behind so_far is begins = record {
  front = so_far.front ∙ ap (λ (l : List ℕ). flat_map cell_bytes items ++ l) begins.1 ∙ sym (append_assoc (flat_map cell_bytes items) (cell_bytes v) behind)
      ∙ ap (λ (l : List ℕ). l ++ behind) (flat_map_more cell_bytes [] items v);
  back = λ more h.
      let all = so_far.back (v ∷ more) (ap (λ (l : List Column). are_cells l (v ∷ more)) is ∙ cells_join c cs v more begins.0 h) in
      ap (are_cells columns) (append_assoc items (v ∷ []) more) ∙ all;
  goes_on = λ vs x h spelled.
      let more = so_far.goes_on vs x h spelled in
      let next = next_cell c cs more.0 x rest (ap (λ (l : List Column). are_cells l more.0) (sym is) ∙ more.2) more.3 in
      let here = one_cell c.kind next.0 v (flat_map cell_bytes next.1 ++ x) behind rest next.4 begins in
      (next.1, more.1 ∙ ap (λ (l : List Value). items ++ l) next.2 ∙ ap (λ (w : Value). items ++ w ∷ next.1) here.0 ∙ sym (append_assoc items (v ∷ []) next.1), next.3, sym here.1);
}

pub stuck_cell : (columns left : List Column) (bytes : List ℕ) (items : List Value) (rest : List ℕ) (c : Column) (cs : List Column)
    → AreRead columns left bytes items rest → left ≡ c ∷ cs → BeginsNone cell_bytes (is_cell c.kind) rest → BeginsNone (flat_map cell_bytes) (are_cells columns) bytes
stuck_cell columns left bytes items rest c cs so_far is none vs x h =
    let more = so_far.goes_on vs x h.0 h.1 in
    let next = next_cell c cs more.0 x rest (ap (λ (l : List Column). are_cells l more.0) (sym is) ∙ more.2) more.3 in
    none next.0 (flat_map cell_bytes next.1 ++ x) next.4

pub all_read : (columns : List Column) (bytes : List ℕ) (items : List Value) (rest : List ℕ) → AreRead columns [] bytes items rest → Begins (flat_map cell_bytes) (are_cells columns) bytes items rest
all_read columns bytes items rest so_far = (ap (are_cells columns) (sym (append-nil items)) ∙ so_far.back [] refl, so_far.front)

-- ---- parts

pub no_parts : (count : ℕ) (rest bytes : List ℕ) → bytes ≡ count ∷ rest
    → ((ps : List PartRef) (x : List ℕ) → length ps ≡ count → IsTrue (list_all is_part ps) → rest ≡ flat_map part_bytes ps ++ x → ⊥) → BeginsNone parts_bytes are_parts bytes
no_parts count rest bytes is none ps x h =
    let same = sym is ∙ h.1 in none ps x (sym (ap first same)) (parts_rule ps h.0).1 (ap others same)

-- ---- tables

pub parts_fail : (t : Table) (rest bytes : List ℕ) → Begins head_bytes is_head bytes t rest → BeginsNone parts_bytes are_parts rest → BeginsNone drawn_bytes is_drawn bytes
parts_fail t rest bytes head none d x h =
    let s = split d x bytes h in
    let one = one_head t d.table rest _ bytes head (s.head, s.is) in
    none d.parts _ (s.parts, one.1)

-- behind the parts
behind_parts : (t : Table) (ps : List PartRef) (rest after bytes : List ℕ) → Begins head_bytes is_head bytes t rest → Begins parts_bytes are_parts rest ps after → (d : Drawn) (x : List ℕ)
    → (s : Split d x bytes) → (t ≡ d.table) × (after ≡ rows_bytes d.l2 ++ (rows_bytes d.l1 ++ x))
behind_parts t ps rest after bytes head parts d x s =
    let one = one_head t d.table rest _ bytes head (s.head, s.is) in
    let two = one_parts ps d.parts after _ rest parts (s.parts, one.1) in
    (one.0, two.1)

along : (t u : Table) (rs : List Row) → t ≡ u → IsTrue (are_rows u.columns rs) → IsTrue (are_rows t.columns rs)
along t u rs same h = ap (λ (w : Table). are_rows w.columns rs) same ∙ h

pub l2_fails : (t : Table) (ps : List PartRef) (rest after bytes : List ℕ) → Begins head_bytes is_head bytes t rest → Begins parts_bytes are_parts rest ps after
    → BeginsNone rows_bytes (are_rows t.columns) after → BeginsNone drawn_bytes is_drawn bytes
l2_fails t ps rest after bytes head parts none d x h =
    let s = split d x bytes h in
    let there = behind_parts t ps rest after bytes head parts d x s in
    none d.l2 (rows_bytes d.l1 ++ x) (along t d.table d.l2 there.0 s.l2, there.1)

pub l1_fails : (t : Table) (ps : List PartRef) (l2 : List Row) (rest after behind bytes : List ℕ) → Begins head_bytes is_head bytes t rest → Begins parts_bytes are_parts rest ps after
    → Begins rows_bytes (are_rows t.columns) after l2 behind → BeginsNone rows_bytes (are_rows t.columns) behind → BeginsNone drawn_bytes is_drawn bytes
l1_fails t ps l2 rest after behind bytes head parts rows none d x h =
    let s = split d x bytes h in
    let there = behind_parts t ps rest after bytes head parts d x s in
    let one = one_rows t.columns l2 d.l2 behind (rows_bytes d.l1 ++ x) after rows (along t d.table d.l2 there.0 s.l2, there.1) in
    none d.l1 x (along t d.table d.l1 there.0 s.l1, one.1)
