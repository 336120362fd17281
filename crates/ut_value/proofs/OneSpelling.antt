-- Bytes begin with one spelling at most.
use Rattle.std.proofs.Common.{◌≡◌, ℕ, ◌<◌, ◌≤◌, ◌^◌, List, [], ◌∷◌, ◌++◌, length, take, drop, Bool, true, false, IsTrue, refl, sym, ◌∙◌, ap, subst, arith, append_assoc, true≢false, ltb-true, leb-true}
use Rattle.std.specs.Prelude.{◌&&◌, nat_le}
use Rattle.std.specs.Int.{w16, w32, to_le_bytes, from_le_bytes}
use Rattle.std.specs.List.{flat_map, list_all}
use Rattle.std.proofs.lemmas.List.{take_at, drop_at}
use Rattle.std.proofs.lemmas.Nat.{from_le_bytes-to_le_bytes_2, from_le_bytes-to_le_bytes_4}
use Rattle.std.proofs.lemmas.List.Sums.{sum_by-cons}
use Rattle.ut_value.specs.Text.{is_name}
use Rattle.ut_value.specs.declared.value.Kind.{Kind}
use Rattle.ut_value.specs.declared.value.Kind.TheVariants as kinds
use Rattle.ut_value.specs.declared.value.Value.{Value}
use Rattle.ut_value.specs.declared.value.Value.TheVariants as values
use Rattle.ut_value.specs.declared.value.Column.{Column}
use Rattle.ut_value.specs.declared.entry.MergeKind.{MergeKind}
use Rattle.ut_value.specs.declared.entry.MergeKind.TheVariants as merges
use Rattle.ut_value.specs.declared.entry.Op.{Op}
use Rattle.ut_value.specs.declared.entry.Op.TheVariants as ops
use Rattle.ut_value.specs.declared.entry.Entry.{Entry}
use Rattle.ut_value.specs.declared.entry.Entry.TheVariants as entries
use Rattle.ut_value.specs.KeyBytes.{int_key, is_value}
use Rattle.ut_value.specs.Spelling.{text_spelling, value_spelling, kind_byte, column_spelling, values_spelling, columns_spelling, place_spelling, op_spelling, ops_spelling, merge_kind_byte, entry_len, is_u16, is_u32, is_column, is_count, names_differ, op_len, ops_len, are_columns, are_values, is_op, is_entry, has_spelling}
use Rattle.ut_value.proofs.KeyLemmas.{one_number}
use Rattle.ut_value.specs.Reading.{BeginsOnce}
use Rattle.ut_value.specs.SpellingLaws.{OneSpelling, SpellingsHaveBytes}

-- fronts of one length
pub same_front : (p q x y : List ℕ) → length p ≡ length q → p ++ x ≡ q ++ y → (p ≡ q) × (x ≡ y)
same_front p q x y long same =
    let front : p ≡ q = sym (take_at p x (length p) refl) ∙ ap (λ (l : List ℕ). take (length p) l) same ∙ take_at q y (length p) (sym long) in
    let back : x ≡ y = sym (drop_at p x (length p) refl) ∙ ap (λ (l : List ℕ). drop (length p) l) same ∙ drop_at q y (length p) (sym long) in
    (front, back)

abbrev pub first : List ℕ → ℕ
first [] = 0
first (x ∷ xs) = x

abbrev pub others : List ℕ → List ℕ
others [] = []
others (x ∷ xs) = xs

-- both parts of a test
pub both : (a b : Bool) → IsTrue (a && b) → IsTrue a × IsTrue b
both true b h = (refl, h)
both false b h = absurd (true≢false (sym h))

pub one_text : (a b x y : List ℕ) → text_spelling a ++ x ≡ text_spelling b ++ y → (a ≡ b) × (x ≡ y)
one_text a b x y same = same_front a b x y (ap first same) (ap others same)

pub one_u16 : (m n : ℕ) (x y : List ℕ) → m < 2 ^ 16 → n < 2 ^ 16 → to_le_bytes w16 m ++ x ≡ to_le_bytes w16 n ++ y → (m ≡ n) × (x ≡ y)
one_u16 m n x y hm hn same =
    let parts = same_front (to_le_bytes w16 m) (to_le_bytes w16 n) x y refl same in
    (sym (from_le_bytes-to_le_bytes_2 m hm) ∙ ap (from_le_bytes w16) parts.0 ∙ from_le_bytes-to_le_bytes_2 n hn, parts.1)

pub one_u32 : (m n : ℕ) (x y : List ℕ) → m < 2 ^ 32 → n < 2 ^ 32 → to_le_bytes w32 m ++ x ≡ to_le_bytes w32 n ++ y → (m ≡ n) × (x ≡ y)
one_u32 m n x y hm hn same =
    let parts = same_front (to_le_bytes w32 m) (to_le_bytes w32 n) x y refl same in
    (sym (from_le_bytes-to_le_bytes_4 m hm) ∙ ap (from_le_bytes w32) parts.0 ∙ from_le_bytes-to_le_bytes_4 n hn, parts.1)

pub one_place : (t i u j : ℕ) (x y : List ℕ) → t < 2 ^ 16 → i < 2 ^ 32 → u < 2 ^ 16 → j < 2 ^ 32 → place_spelling t i ++ x ≡ place_spelling u j ++ y → (t ≡ u) × (i ≡ j) × (x ≡ y)
one_place t i u j x y ht hi hu hj same =
    let table = one_u16 t u (to_le_bytes w32 i ++ x) (to_le_bytes w32 j ++ y) ht hu same in
    let id = one_u32 i j x y hi hj table.1 in
    (table.0, id.0, id.1)

pub one_value : BeginsOnce value_spelling is_value
one_value (values.Int m) (values.Int n) x y bytes h g =
    let parts = same_front (int_key m) (int_key n) x y refl (ap others (sym h.1 ∙ g.1)) in
    (ap values.Int (one_number m n h.0 g.0 parts.0), parts.1)
one_value (values.Int m) (values.Text t) x y bytes h g = absurd (omega (arith, ap first (sym h.1 ∙ g.1)))
one_value (values.Text s) (values.Int n) x y bytes h g = absurd (omega (arith, ap first (sym h.1 ∙ g.1)))
one_value (values.Text s) (values.Text t) x y bytes h g =
    let parts = one_text s t x y (ap others (sym h.1 ∙ g.1)) in
    (ap values.Text parts.0, parts.1)

one_kind : (j k : Kind) → kind_byte j ≡ kind_byte k → j ≡ k
one_kind kinds.Int kinds.Int is = refl
one_kind kinds.Int kinds.Text is = absurd (omega (arith, is))
one_kind kinds.Text kinds.Int is = absurd (omega (arith, is))
one_kind kinds.Text kinds.Text is = refl

pub one_column : BeginsOnce column_spelling is_column
one_column a b x y bytes h g =
    let kind = one_kind a.kind b.kind (ap first (sym h.1 ∙ g.1)) in
    let parts = one_text a.name b.name x y (ap others (sym h.1 ∙ g.1)) in
    (λ i. record { name = parts.0 i; kind = kind i }, parts.1)

-- lists of one length
pub one_list : {X : Type 0} (piece : X → List ℕ) (keeps : X → Bool) → BeginsOnce piece keeps → (xs ys : List X) (x y : List ℕ) → length xs ≡ length ys
    → IsTrue (list_all keeps xs) → IsTrue (list_all keeps ys) → flat_map piece xs ++ x ≡ flat_map piece ys ++ y → (xs ≡ ys) × (x ≡ y)
one_list piece keeps once [] [] x y long hx hy same = (refl, same)
one_list piece keeps once [] (b ∷ ys) x y long hx hy same = absurd (omega (arith, long))
one_list piece keeps once (a ∷ xs) [] x y long hx hy same = absurd (omega (arith, long))
one_list piece keeps once (a ∷ xs) (b ∷ ys) x y long hx hy same =
    let pa = both (keeps a) (list_all keeps xs) hx in
    let pb = both (keeps b) (list_all keeps ys) hy in
    let split = sym (append_assoc (piece a) (flat_map piece xs) x) ∙ same ∙ append_assoc (piece b) (flat_map piece ys) y in
    let here = once a b (flat_map piece xs ++ x) (flat_map piece ys ++ y) (piece b ++ (flat_map piece ys ++ y)) (pa.0, sym split) (pb.0, refl) in
    let more = one_list piece keeps once xs ys x y (let e : length xs ≡ length ys = omega (arith, long) in e) pa.1 pb.1 here.1 in
    (λ i. here.0 i ∷ more.0 i, more.1)

pub one_values : BeginsOnce values_spelling are_values
one_values a b x y bytes h g =
    let same = sym h.1 ∙ g.1 in
    one_list value_spelling is_value one_value a b x y (ap first same) (both (is_count 64 (length a)) (list_all is_value a) h.0).1 (both (is_count 64 (length b)) (list_all is_value b) g.0).1 (ap others same)

-- the rule of a place
pub place_rule : (t i : ℕ) → IsTrue (is_u16 t && is_u32 i) → (t < 2 ^ 16) × (i < 2 ^ 32)
place_rule t i h = let parts = both (is_u16 t) (is_u32 i) h in (ltb-true t (2 ^ 16) parts.0, ltb-true i (2 ^ 32) parts.1)

pub insert_rule : (t i : ℕ) (vs : List Value) → IsTrue (is_op (ops.Insert t i vs)) → (t < 2 ^ 16) × (i < 2 ^ 32) × IsTrue (are_values vs)
insert_rule t i vs h =
    let parts = both (is_u16 t && is_u32 i) (are_values vs) h in
    let place = place_rule t i parts.0 in
    (place.0, place.1, parts.1)

pub one_op : BeginsOnce op_spelling is_op
one_op (ops.Insert t i vs) (ops.Insert u j ws) x y bytes h g =
    let a = insert_rule t i vs h.0 in
    let b = insert_rule u j ws g.0 in
    let place = one_place t i u j (values_spelling vs ++ x) (values_spelling ws ++ y) a.0 a.1 b.0 b.1 (ap others (sym h.1 ∙ g.1)) in
    let more = one_values vs ws x y (values_spelling ws ++ y) (a.2, sym place.2) (b.2, refl) in
    (λ i. ops.Insert (place.0 i) (place.1 i) (more.0 i), more.1)
one_op (ops.Insert t i vs) (ops.Delete u j) x y bytes h g = absurd (omega (arith, ap first (sym h.1 ∙ g.1)))
one_op (ops.Delete t i) (ops.Insert u j ws) x y bytes h g = absurd (omega (arith, ap first (sym h.1 ∙ g.1)))
one_op (ops.Delete t i) (ops.Delete u j) x y bytes h g =
    let a = place_rule t i h.0 in
    let b = place_rule u j g.0 in
    let place = one_place t i u j x y a.0 a.1 b.0 b.1 (ap others (sym h.1 ∙ g.1)) in
    (λ i. ops.Delete (place.0 i) (place.1 i), place.2)

-- one to 64 columns of different names
pub columns_rule : (cs : List Column) → IsTrue (are_columns cs) → IsTrue (is_count 64 (length cs)) × IsTrue (list_all is_column cs) × IsTrue (names_differ cs)
columns_rule cs h =
    let outer = both (is_count 64 (length cs) && list_all is_column cs) (names_differ cs) h in
    let inner = both (is_count 64 (length cs)) (list_all is_column cs) outer.0 in
    (inner.0, inner.1, outer.1)

pub one_columns : BeginsOnce columns_spelling are_columns
one_columns a b x y bytes h g =
    let same = sym h.1 ∙ g.1 in
    one_list column_spelling is_column one_column a b x y (ap first same) (columns_rule a h.0).1 (columns_rule b g.0).1 (ap others same)

one_merge_kind : (j k : MergeKind) → merge_kind_byte j ≡ merge_kind_byte k → j ≡ k
one_merge_kind merges.Classic merges.Classic is = refl
one_merge_kind merges.Classic merges.Resort is = absurd (omega (arith, is))
one_merge_kind merges.Classic merges.Partial is = absurd (omega (arith, is))
one_merge_kind merges.Resort merges.Classic is = absurd (omega (arith, is))
one_merge_kind merges.Resort merges.Resort is = refl
one_merge_kind merges.Resort merges.Partial is = absurd (omega (arith, is))
one_merge_kind merges.Partial merges.Classic is = absurd (omega (arith, is))
one_merge_kind merges.Partial merges.Resort is = absurd (omega (arith, is))
one_merge_kind merges.Partial merges.Partial is = refl
one_merge_kind merges.Classic merges.Extend is = absurd (omega (arith, is))
one_merge_kind merges.Resort merges.Extend is = absurd (omega (arith, is))
one_merge_kind merges.Partial merges.Extend is = absurd (omega (arith, is))
one_merge_kind merges.Extend merges.Classic is = absurd (omega (arith, is))
one_merge_kind merges.Extend merges.Resort is = absurd (omega (arith, is))
one_merge_kind merges.Extend merges.Partial is = absurd (omega (arith, is))
one_merge_kind merges.Extend merges.Extend is = refl

-- operations whose number has four bytes
pub one_ops : (vs ws : List Op) (x y : List ℕ) → length vs < 2 ^ 32 → length ws < 2 ^ 32 → IsTrue (list_all is_op vs) → IsTrue (list_all is_op ws)
    → ops_spelling vs ++ x ≡ ops_spelling ws ++ y → (vs ≡ ws) × (x ≡ y)
one_ops vs ws x y few few' hv hw same =
    let count = one_u32 (length vs) (length ws) (flat_map op_spelling vs ++ x) (flat_map op_spelling ws ++ y) few few' same in
    one_list op_spelling is_op one_op vs ws x y count.0 hv hw count.1

-- there are no more operations than bytes
pub few_ops : (os : List Op) → length os ≤ ops_len os
few_ops [] = omega arith
few_ops (ops.Insert t i vs ∷ os) = omega (arith, sum_by-cons op_len (ops.Insert t i vs) os, few_ops os)
few_ops (ops.Delete t i ∷ os) = omega (arith, sum_by-cons op_len (ops.Delete t i) os, few_ops os)

-- the parts of an entry that has a spelling
pub entry_rule : (entry : Entry) → IsTrue (has_spelling entry) → IsTrue (is_entry entry) × (entry_len entry ≤ 2 ^ 30)
entry_rule entry h = let parts = both (is_entry entry) (nat_le (entry_len entry) 1073741824) h in (parts.0, leb-true (entry_len entry) (2 ^ 30) parts.1)

pub one_spelling : OneSpelling
one_spelling (entries.Create n cs) (entries.Create m ds) x y ha hb same =
    let a = both (is_name n) (are_columns cs) (entry_rule (entries.Create n cs) ha).0 in
    let b = both (is_name m) (are_columns ds) (entry_rule (entries.Create m ds) hb).0 in
    let split : text_spelling n ++ (columns_spelling cs ++ x) ≡ text_spelling m ++ (columns_spelling ds ++ y) =
    sym (append_assoc (text_spelling n) (columns_spelling cs) x) ∙ ap others same ∙ append_assoc (text_spelling m) (columns_spelling ds) y in
    let name = one_text n m (columns_spelling cs ++ x) (columns_spelling ds ++ y) split in
    let more = one_columns cs ds x y (columns_spelling ds ++ y) (a.1, sym name.1) (b.1, refl) in
    (λ i. entries.Create (name.0 i) (more.0 i), more.1)
one_spelling (entries.Create n cs) (entries.Txn ws) x y ha hb same = absurd (omega (arith, ap first same))
one_spelling (entries.Create n cs) (entries.Begun m u k) x y ha hb same = absurd (omega (arith, ap first same))
one_spelling (entries.Create n cs) (entries.Ended m) x y ha hb same = absurd (omega (arith, ap first same))
one_spelling (entries.Txn vs) (entries.Create m ds) x y ha hb same = absurd (omega (arith, ap first same))
one_spelling (entries.Txn vs) (entries.Txn ws) x y ha hb same =
    let a = entry_rule (entries.Txn vs) ha in
    let b = entry_rule (entries.Txn ws) hb in
    let parts = one_ops vs ws x y (omega (arith, few_ops vs, a.1)) (omega (arith, few_ops ws, b.1)) (both (nat_le 1 (length vs)) (list_all is_op vs) a.0).1 (both (nat_le 1 (length ws)) (list_all is_op ws) b.0).1 (ap others same) in
    (ap entries.Txn parts.0, parts.1)
one_spelling (entries.Txn vs) (entries.Begun m u k) x y ha hb same = absurd (omega (arith, ap first same))
one_spelling (entries.Txn vs) (entries.Ended m) x y ha hb same = absurd (omega (arith, ap first same))
one_spelling (entries.Begun n t j) (entries.Create m ds) x y ha hb same = absurd (omega (arith, ap first same))
one_spelling (entries.Begun n t j) (entries.Txn ws) x y ha hb same = absurd (omega (arith, ap first same))
one_spelling (entries.Begun n t j) (entries.Begun m u k) x y ha hb same =
    let a = both (is_u32 n) (is_u16 t) (entry_rule (entries.Begun n t j) ha).0 in
    let b = both (is_u32 m) (is_u16 u) (entry_rule (entries.Begun m u k) hb).0 in
    let number = one_u32 n m (to_le_bytes w16 t ++ merge_kind_byte j ∷ x) (to_le_bytes w16 u ++ merge_kind_byte k ∷ y) (ltb-true n (2 ^ 32) a.0) (ltb-true m (2 ^ 32) b.0) (ap others same) in
    let table = one_u16 t u (merge_kind_byte j ∷ x) (merge_kind_byte k ∷ y) (ltb-true t (2 ^ 16) a.1) (ltb-true u (2 ^ 16) b.1) number.1 in
    let kind = one_merge_kind j k (ap first table.1) in
    (λ i. entries.Begun (number.0 i) (table.0 i) (kind i), ap others table.1)
one_spelling (entries.Begun n t j) (entries.Ended m) x y ha hb same = absurd (omega (arith, ap first same))
one_spelling (entries.Ended n) (entries.Create m ds) x y ha hb same = absurd (omega (arith, ap first same))
one_spelling (entries.Ended n) (entries.Txn ws) x y ha hb same = absurd (omega (arith, ap first same))
one_spelling (entries.Ended n) (entries.Begun m u k) x y ha hb same = absurd (omega (arith, ap first same))
one_spelling (entries.Ended n) (entries.Ended m) x y ha hb same =
    let number = one_u32 n m x y (ltb-true n (2 ^ 32) (entry_rule (entries.Ended n) ha).0) (ltb-true m (2 ^ 32) (entry_rule (entries.Ended m) hb).0) (ap others same) in
    (ap entries.Ended number.0, number.1)

pub spelling_some : SpellingsHaveBytes
spelling_some (entries.Create n cs) = omega arith
spelling_some (entries.Txn vs) = omega arith
spelling_some (entries.Begun n t k) = omega arith
spelling_some (entries.Ended n) = omega arith

-- the number of operations has four bytes
pub count_fits : (entry : Entry) (os : List Op) (n : ℕ) → IsTrue (has_spelling entry) → entry ≡ entries.Txn os → n ≡ length os → n < 2 ^ 32
count_fits entry os n h is e =
    let rule = entry_rule (entries.Txn os) (subst (λ (x : Entry). IsTrue (has_spelling x)) is h) in
    omega (arith, few_ops os, rule.1, e)
