-- Bytes begin with the spelling of one row, part or table at most.
use Rattle.std.proofs.Common.{◌≡◌, ℕ, ◌<◌, ◌≤◌, ◌^◌, List, [], ◌∷◌, ◌++◌, length, true, IsTrue, refl, sym, ◌∙◌, ap, arith, append_assoc, true≢false, ltb-true, leb-true, nat_eq}
use Rattle.std.specs.Prelude.{◌&&◌, nat_le}
use Rattle.std.specs.Int.{w32, w64, to_le_bytes, from_le_bytes}
use Rattle.std.specs.List.{flat_map, list_all}
use Rattle.std.proofs.lemmas.Bool.{eqb-true}
use Rattle.std.proofs.lemmas.List.{append-nil}
use Rattle.std.proofs.lemmas.Nat.{from_le_bytes-to_le_bytes_8}
use Rattle.ut_value.specs.declared.value.Kind.{Kind}
use Rattle.ut_value.specs.declared.value.Kind.TheVariants as kinds
use Rattle.ut_value.specs.declared.value.Value.{Value}
use Rattle.ut_value.specs.declared.value.Value.TheVariants as values
use Rattle.ut_value.specs.declared.value.Column.{Column}
use Rattle.ut_value.specs.declared.value.Row.{Row}
use Rattle.ut_value.specs.KeyBytes.{int_key, is_value, is_of_kind, is_int}
use Rattle.ut_value.specs.Text.{is_name}
use Rattle.ut_value.specs.Spelling.{text_spelling, columns_spelling, is_u32, are_columns}
use Rattle.ut_value.specs.Reading.{Begins, BeginsOnce}
use Rattle.ut_value.proofs.KeyLemmas.{one_number}
use Rattle.ut_value.proofs.OneSpelling.{same_front, first, others, both, one_text, one_u32, one_list, one_columns}
use Rattle.ut_plain.specs.Tables.{fits_columns}
use Rattle.ut_plain.specs.declared.table.Table.{Table}
use Rattle.ut_image.specs.declared.drawn.PartRef.{PartRef}
use Rattle.ut_image.specs.declared.drawn.Drawn.{Drawn}
use Rattle.ut_image.specs.Bytes.{cell_bytes, row_bytes, rows_bytes, mark_bytes, part_bytes, parts_bytes, head_bytes, drawn_bytes, image_bytes}
use Rattle.ut_image.specs.Rules.{is_cell, are_cells, is_row, are_rows, is_u64, is_part, are_parts, is_head, is_drawn, OneImage}
use Rattle.ut_image.proofs.MarkLemmas.{one_marks}

pub one_u64 : (m n : ℕ) (x y : List ℕ) → m < 2 ^ 64 → n < 2 ^ 64 → to_le_bytes w64 m ++ x ≡ to_le_bytes w64 n ++ y → (m ≡ n) × (x ≡ y)
one_u64 m n x y hm hn same =
    let parts = same_front (to_le_bytes w64 m) (to_le_bytes w64 n) x y refl same in
    (sym (from_le_bytes-to_le_bytes_8 m hm) ∙ ap (from_le_bytes w64) parts.0 ∙ from_le_bytes-to_le_bytes_8 n hn, parts.1)

-- ---- values and rows

pub one_cell : (kind : Kind) → BeginsOnce cell_bytes (is_cell kind)
one_cell kinds.Int (values.Int m) (values.Int n) x y bytes h g =
    let parts = same_front (int_key m) (int_key n) x y refl (sym h.1 ∙ g.1) in
    (ap values.Int (one_number m n (both true (is_int m) h.0).1 (both true (is_int n) g.0).1 parts.0), parts.1)
one_cell kinds.Int (values.Int m) (values.Text t) x y bytes h g = absurd (true≢false (sym g.0))
one_cell kinds.Int (values.Text s) b x y bytes h g = absurd (true≢false (sym h.0))
one_cell kinds.Text (values.Text s) (values.Text t) x y bytes h g =
    let parts = one_text s t x y (sym h.1 ∙ g.1) in (ap values.Text parts.0, parts.1)
one_cell kinds.Text (values.Text s) (values.Int n) x y bytes h g = absurd (true≢false (sym g.0))
one_cell kinds.Text (values.Int m) b x y bytes h g = absurd (true≢false (sym h.0))

-- the first value and the others
pub cells_split : (c : Column) (cs : List Column) (v : Value) (vs : List Value) → IsTrue (are_cells (c ∷ cs) (v ∷ vs)) → IsTrue (is_cell c.kind v) × IsTrue (are_cells cs vs)
cells_split c cs v vs h =
    let parts = both (fits_columns (c ∷ cs) (v ∷ vs)) (list_all is_value (v ∷ vs)) h in
    let kinds = both (is_of_kind c.kind v) (fits_columns cs vs) parts.0 in
    let rules = both (is_value v) (list_all is_value vs) parts.1 in
    ((λ i. kinds.0 i && rules.0 i), (λ i. kinds.1 i && rules.1 i))

pub cells_join : (c : Column) (cs : List Column) (v : Value) (vs : List Value) → IsTrue (is_cell c.kind v) → IsTrue (are_cells cs vs) → IsTrue (are_cells (c ∷ cs) (v ∷ vs))
cells_join c cs v vs one more =
    let here = both (is_of_kind c.kind v) (is_value v) one in
    let there = both (fits_columns cs vs) (list_all is_value vs) more in
    (λ i. (here.0 i && there.0 i) && (here.1 i && there.1 i))

pub one_cells : (columns : List Column) → BeginsOnce (flat_map cell_bytes) (are_cells columns)
one_cells [] [] [] x y bytes h g = (refl, sym h.1 ∙ g.1)
one_cells [] [] (w ∷ ws) x y bytes h g = absurd (true≢false (sym g.0))
one_cells [] (v ∷ vs) b x y bytes h g = absurd (true≢false (sym h.0))
one_cells (c ∷ cs) [] b x y bytes h g = absurd (true≢false (sym h.0))
one_cells (c ∷ cs) (v ∷ vs) [] x y bytes h g = absurd (true≢false (sym g.0))
one_cells (c ∷ cs) (v ∷ vs) (w ∷ ws) x y bytes h g =
    let a = cells_split c cs v vs h.0 in
    let b = cells_split c cs w ws g.0 in
    let left = h.1 ∙ append_assoc (cell_bytes v) (flat_map cell_bytes vs) x in
    let right = g.1 ∙ append_assoc (cell_bytes w) (flat_map cell_bytes ws) y in
    let here = one_cell c.kind v w (flat_map cell_bytes vs ++ x) (flat_map cell_bytes ws ++ y) bytes (a.0, left) (b.0, right) in
    let more = one_cells cs vs ws x y (flat_map cell_bytes ws ++ y) (a.1, sym here.1) (b.1, refl) in
    (λ i. here.0 i ∷ more.0 i, more.1)

-- the rule of a row, and its bytes by parts
pub row_rule : (columns : List Column) (r : Row) → IsTrue (is_row columns r) → (r.id < 2 ^ 32) × IsTrue (are_cells columns r.values)
row_rule columns r h = let parts = both (is_u32 r.id) (are_cells columns r.values) h in (ltb-true r.id (2 ^ 32) parts.0, parts.1)

pub row_parts : (r : Row) (x bytes : List ℕ) → bytes ≡ row_bytes r ++ x → bytes ≡ to_le_bytes w32 r.id ++ (flat_map cell_bytes r.values ++ x)
row_parts r x bytes is = is ∙ append_assoc (to_le_bytes w32 r.id) (flat_map cell_bytes r.values) x

pub one_row : (columns : List Column) → BeginsOnce row_bytes (is_row columns)
one_row columns a b x y bytes h g =
    let ra = row_rule columns a h.0 in
    let rb = row_rule columns b g.0 in
    let same = sym (row_parts a x bytes h.1) ∙ row_parts b y bytes g.1 in
    let id = one_u32 a.id b.id (flat_map cell_bytes a.values ++ x) (flat_map cell_bytes b.values ++ y) ra.0 rb.0 same in
    let more = one_cells columns a.values b.values x y (flat_map cell_bytes b.values ++ y) (ra.1, sym id.1) (rb.1, refl) in
    (λ i. record { id = id.0 i; values = more.0 i }, more.1)

pub rows_rule : (columns : List Column) (rs : List Row) → IsTrue (are_rows columns rs) → (length rs < 2 ^ 32) × IsTrue (list_all (is_row columns) rs)
rows_rule columns rs h = let parts = both (is_u32 (length rs)) (list_all (is_row columns) rs) h in (ltb-true (length rs) (2 ^ 32) parts.0, parts.1)

pub rows_parts : (rs : List Row) (x bytes : List ℕ) → bytes ≡ rows_bytes rs ++ x → bytes ≡ to_le_bytes w32 (length rs) ++ (flat_map row_bytes rs ++ x)
rows_parts rs x bytes is = is ∙ append_assoc (to_le_bytes w32 (length rs)) (flat_map row_bytes rs) x

pub one_rows : (columns : List Column) → BeginsOnce rows_bytes (are_rows columns)
one_rows columns a b x y bytes h g =
    let ra = rows_rule columns a h.0 in
    let rb = rows_rule columns b g.0 in
    let same = sym (rows_parts a x bytes h.1) ∙ rows_parts b y bytes g.1 in
    let count = one_u32 (length a) (length b) (flat_map row_bytes a ++ x) (flat_map row_bytes b ++ y) ra.0 rb.0 same in
    one_list row_bytes (is_row columns) (one_row columns) a b x y count.0 ra.1 rb.1 count.1

-- ---- parts

pub part_rule : (p : PartRef) → IsTrue (is_part p) → (p.first < 2 ^ 32) × (p.length < 2 ^ 64) × (p.rows < 2 ^ 32) × (length p.live ≡ p.rows)
part_rule p h =
    let outer = both (is_u32 p.first) (is_u64 p.length && (is_u32 p.rows && nat_eq (length p.live) p.rows)) h in
    let middle = both (is_u64 p.length) (is_u32 p.rows && nat_eq (length p.live) p.rows) outer.1 in
    let inner = both (is_u32 p.rows) (nat_eq (length p.live) p.rows) middle.1 in
    (ltb-true p.first (2 ^ 32) outer.0, ltb-true p.length (2 ^ 64) middle.0, ltb-true p.rows (2 ^ 32) inner.0, eqb-true (length p.live) p.rows inner.1)

pub part_parts : (p : PartRef) (x bytes : List ℕ) → bytes ≡ part_bytes p ++ x → bytes ≡ to_le_bytes w32 p.first ++ (to_le_bytes w64 p.length ++ (to_le_bytes w32 p.rows ++ (mark_bytes p.live ++ x)))
part_parts p x bytes is =
    is
    ∙ append_assoc (to_le_bytes w32 p.first) (to_le_bytes w64 p.length ++ (to_le_bytes w32 p.rows ++ mark_bytes p.live)) x
    ∙ ap (λ (l : List ℕ). to_le_bytes w32 p.first ++ l) (append_assoc (to_le_bytes w64 p.length) (to_le_bytes w32 p.rows ++ mark_bytes p.live) x)
    ∙ ap (λ (l : List ℕ). to_le_bytes w32 p.first ++ (to_le_bytes w64 p.length ++ l)) (append_assoc (to_le_bytes w32 p.rows) (mark_bytes p.live) x)

-- the numbers before the marks
pub one_span : (f l r g m s : ℕ) (x y : List ℕ) → f < 2 ^ 32 → l < 2 ^ 64 → r < 2 ^ 32 → g < 2 ^ 32 → m < 2 ^ 64 → s < 2 ^ 32
    → to_le_bytes w32 f ++ (to_le_bytes w64 l ++ (to_le_bytes w32 r ++ x)) ≡ to_le_bytes w32 g ++ (to_le_bytes w64 m ++ (to_le_bytes w32 s ++ y)) → (f ≡ g) × (l ≡ m) × (r ≡ s) × (x ≡ y)
one_span f l r g m s x y hf hl hr hg hm hs same =
    let page = one_u32 f g (to_le_bytes w64 l ++ (to_le_bytes w32 r ++ x)) (to_le_bytes w64 m ++ (to_le_bytes w32 s ++ y)) hf hg same in
    let long = one_u64 l m (to_le_bytes w32 r ++ x) (to_le_bytes w32 s ++ y) hl hm page.1 in
    let rows = one_u32 r s x y hr hs long.1 in
    (page.0, long.0, rows.0, rows.1)

pub one_part : BeginsOnce part_bytes is_part
one_part a b x y bytes h g =
    let ra = part_rule a h.0 in
    let rb = part_rule b g.0 in
    let same = sym (part_parts a x bytes h.1) ∙ part_parts b y bytes g.1 in
    let span = one_span a.first a.length a.rows b.first b.length b.rows (mark_bytes a.live ++ x) (mark_bytes b.live ++ y) ra.0 ra.1 ra.2 rb.0 rb.1 rb.2 same in
    let live = one_marks a.live b.live x y (ra.3 ∙ span.2 ∙ sym rb.3) span.3 in
    (λ i. record { first = span.0 i; length = span.1 i; rows = span.2 i; live = live.0 i }, live.1)

pub parts_rule : (ps : List PartRef) → IsTrue (are_parts ps) → (length ps ≤ 8) × IsTrue (list_all is_part ps)
parts_rule ps h = let parts = both (nat_le (length ps) 8) (list_all is_part ps) h in (leb-true (length ps) 8 parts.0, parts.1)

pub one_parts : BeginsOnce parts_bytes are_parts
one_parts a b x y bytes h g =
    let same = sym h.1 ∙ g.1 in
    one_list part_bytes is_part one_part a b x y (ap first same) (parts_rule a h.0).1 (parts_rule b g.0).1 (ap others same)

-- ---- tables

pub head_rule : (t : Table) → IsTrue (is_head t) → IsTrue (is_name t.name) × IsTrue (are_columns t.columns)
head_rule t h = both (is_name t.name) (are_columns t.columns) h

pub head_parts : (t : Table) (x bytes : List ℕ) → bytes ≡ head_bytes t ++ x → bytes ≡ text_spelling t.name ++ (columns_spelling t.columns ++ x)
head_parts t x bytes is = is ∙ append_assoc (text_spelling t.name) (columns_spelling t.columns) x

pub one_head : BeginsOnce head_bytes is_head
one_head a b x y bytes h g =
    let same = sym (head_parts a x bytes h.1) ∙ head_parts b y bytes g.1 in
    let name = one_text a.name b.name (columns_spelling a.columns ++ x) (columns_spelling b.columns ++ y) same in
    let more = one_columns a.columns b.columns x y (columns_spelling b.columns ++ y) ((head_rule a h.0).1, sym name.1) ((head_rule b g.0).1, refl) in
    (λ i. record { name = name.0 i; columns = more.0 i }, more.1)

-- what the rule of a table says of its parts, and its bytes by parts
pub record Split (d : Drawn) (x bytes : List ℕ) : Type 0 where
  pub head : IsTrue (is_head d.table)
  pub parts : IsTrue (are_parts d.parts)
  pub l2 : IsTrue (are_rows d.table.columns d.l2)
  pub l1 : IsTrue (are_rows d.table.columns d.l1)
  pub is : bytes ≡ head_bytes d.table ++ (parts_bytes d.parts ++ (rows_bytes d.l2 ++ (rows_bytes d.l1 ++ x)))

pub split : (d : Drawn) (x bytes : List ℕ) → Begins drawn_bytes is_drawn bytes d x → Split d x bytes
split d x bytes h =
    let outer = both (is_head d.table) (are_parts d.parts && (are_rows d.table.columns d.l2 && are_rows d.table.columns d.l1)) h.0 in
    let middle = both (are_parts d.parts) (are_rows d.table.columns d.l2 && are_rows d.table.columns d.l1) outer.1 in
    let inner = both (are_rows d.table.columns d.l2) (are_rows d.table.columns d.l1) middle.1 in
    record {
      head = outer.0;
      parts = middle.0;
      l2 = inner.0;
      l1 = inner.1;
      is = h.1
          ∙ append_assoc (head_bytes d.table) (parts_bytes d.parts ++ (rows_bytes d.l2 ++ rows_bytes d.l1)) x
          ∙ ap (λ (l : List ℕ). head_bytes d.table ++ l) (append_assoc (parts_bytes d.parts) (rows_bytes d.l2 ++ rows_bytes d.l1) x)
          ∙ ap (λ (l : List ℕ). head_bytes d.table ++ (parts_bytes d.parts ++ l)) (append_assoc (rows_bytes d.l2) (rows_bytes d.l1) x);
    }

-- behind one table's columns the rows are those of the other's
rows_along : (t u : Table) (rs : List Row) → t ≡ u → IsTrue (are_rows u.columns rs) → IsTrue (are_rows t.columns rs)
rows_along t u rs same h = ap (λ (w : Table). are_rows w.columns rs) same ∙ h

pub one_drawn : BeginsOnce drawn_bytes is_drawn
one_drawn a b x y bytes h g =
    let sa = split a x bytes h in
    let sb = split b y bytes g in
    let head = one_head a.table b.table _ _ bytes (sa.head, sa.is) (sb.head, sb.is) in
    let parts = one_parts a.parts b.parts _ _ _ (sa.parts, refl) (sb.parts, head.1) in
    let l2 = one_rows a.table.columns a.l2 b.l2 _ _ _ (sa.l2, refl) (rows_along a.table b.table b.l2 head.0 sb.l2, parts.1) in
    let l1 = one_rows a.table.columns a.l1 b.l1 _ _ _ (sa.l1, refl) (rows_along a.table b.table b.l1 head.0 sb.l1, l2.1) in
    (λ i. record { table = head.0 i; parts = parts.0 i; l2 = l2.0 i; l1 = l1.0 i }, l1.1)

-- ---- the directory

pub image-once : OneImage
image-once next commits a b ha hb same =
    let left : image_bytes a ++ [] ≡ image_bytes b ++ [] = append-nil (image_bytes a) ∙ same ∙ sym (append-nil (image_bytes b)) in
    let parts : to_le_bytes w32 (length a) ++ (flat_map drawn_bytes a ++ []) ≡ to_le_bytes w32 (length b) ++ (flat_map drawn_bytes b ++ []) =
    sym (append_assoc (to_le_bytes w32 (length a)) (flat_map drawn_bytes a) []) ∙ left ∙ append_assoc (to_le_bytes w32 (length b)) (flat_map drawn_bytes b) [] in
    let count = one_u32 (length a) (length b) (flat_map drawn_bytes a ++ []) (flat_map drawn_bytes b ++ []) (omega (arith, ha.few)) (omega (arith, hb.few)) parts in
    (one_list drawn_bytes is_drawn one_drawn a b [] [] count.0 ha.each hb.each count.1).0
