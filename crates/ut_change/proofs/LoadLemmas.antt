-- The rows that a bulk cuts out of values, and their inserts.
use Rattle.std.proofs.Common.{ℕ, zero, suc, ◌+◌, ◌<◌, ◌≤◌, ◌≡◌, ◌&&◌, List, [], ◌∷◌, length, map, None, refl, ap, arith, All, IsTrue, lt-ltb}
use Rattle.std.specs.List.{list_all}
use Rattle.std.proofs.lemmas.List.Sums.{sum_by-cons}
use Rattle.ut_value.specs.declared.value.Column.{Column}
use Rattle.ut_value.specs.declared.value.Value.{Value}
use Rattle.ut_value.specs.declared.value.Row.{Row}
use Rattle.ut_value.specs.declared.entry.Op.{Op}
use Rattle.ut_value.specs.declared.entry.Op.TheVariants as ops
use Rattle.ut_value.specs.KeyBytes.{is_value}
use Rattle.ut_value.specs.Spelling.{is_op, is_u16, is_u32, are_values, are_columns}
use Rattle.ut_plain.specs.Tables.{fits_columns}
use Rattle.ut_plain.specs.Made.{cut, inserts}
use Rattle.ut_plain.proofs.BoolLemmas.{and_left, and_right, and_both}
use Rattle.ut_plain.proofs.ListLemmas.{list_all_take, list_all_drop}
use Rattle.ut_plain.proofs.TableLemmas.{are_values-fit}
use Rattle.ut_staged.specs.Staged.{begun_row}
use Rattle.ut_staged.specs.Staging.{new_rows}
use Rattle.ut_change.specs.Writes.{op_fits, op_ends, ends_of}
use Rattle.ut_change.specs.Loads.{inserted, numbered}

-- ---- rows under their ids

pub length-numbered : (id : ℕ) (rows : List (List Value)) → length (numbered id rows) ≡ length rows
length-numbered id [] = refl
length-numbered id (vs ∷ rows) = ap suc (length-numbered (id + 1) rows)

pub numbered-fit : (columns : List Column) (n id : ℕ) (rows : List (List Value)) → IsTrue (list_all (op_fits columns) (inserts n id rows))
    → All (λ (r : Row). IsTrue (fits_columns columns r.values)) (numbered id rows)
numbered-fit columns n id [] h k d lt = absurd (omega arith)
numbered-fit columns n id (vs ∷ rows) h zero d lt = and_left _ _ h
numbered-fit columns n id (vs ∷ rows) h (suc k) d lt = numbered-fit columns n (id + 1) rows (and_right (fits_columns columns vs) _ h) k d (omega arith)

pub begun-numbered : (t id : ℕ) (rows : List (List Value)) → map (begun_row t) (numbered id rows) ≡ new_rows t id rows
begun-numbered t id [] = refl
begun-numbered t id (vs ∷ rows) = ap (λ rs. record { id = id; values = vs; stamp = record { begin = t; end = None } } ∷ rs) (begun-numbered t (id + 1) rows)

-- ---- their inserts

pub inserted-inserts : (n id : ℕ) (rows : List (List Value)) → inserted (inserts n id rows) ≡ numbered id rows
inserted-inserts n id [] = refl
inserted-inserts n id (vs ∷ rows) = ap (λ (rs : List Row). record { id = id; values = vs } ∷ rs) (inserted-inserts n (id + 1) rows)

pub inserts-fit : (columns : List Column) (n id : ℕ) (rows : List (List Value)) → IsTrue (list_all (fits_columns columns) rows) → IsTrue (list_all (op_fits columns) (inserts n id rows))
inserts-fit columns n id [] h = refl
inserts-fit columns n id (vs ∷ rows) h = and_both _ _ (and_left _ _ h) (inserts-fit columns n (id + 1) rows (and_right (fits_columns columns vs) _ h))

pub inserts-rule : (columns : List Column) (n id : ℕ) (rows : List (List Value)) → n < 65536 → id + length rows ≤ 2147483649 → IsTrue (are_columns columns) → IsTrue (list_all (fits_columns columns) rows) → IsTrue (list_all (λ vs. list_all is_value vs) rows) → IsTrue (list_all is_op (inserts n id rows))
inserts-rule columns n id [] small room are fits each = refl
inserts-rule columns n id (vs ∷ rows) small room are fits each =
    and_both _ _ (and_both (is_u16 n && is_u32 id) (are_values vs) (and_both (is_u16 n) (is_u32 id) (lt-ltb n 65536 small) (lt-ltb id 4294967296 (omega arith))) (are_values-fit columns vs are (and_left _ _ fits) (and_left _ _ each)))
    (inserts-rule columns n (id + 1) rows small (omega arith) are (and_right (fits_columns columns vs) _ fits) (and_right (list_all is_value vs) _ each))

pub cut-values : (n width : ℕ) (vs : List Value) → IsTrue (list_all is_value vs) → IsTrue (list_all (λ x. list_all is_value x) (cut n width vs))
cut-values zero width vs h = refl
cut-values (suc n) width [] h = refl
cut-values (suc n) width (v ∷ vs) h = and_both _ _ (list_all_take is_value width (v ∷ vs) h) (cut-values n width _ (list_all_drop is_value width (v ∷ vs) h))

pub ends-inserts : (n id : ℕ) (rows : List (List Value)) → ends_of (inserts n id rows) ≡ 0
ends-inserts n id [] = refl
ends-inserts n id (vs ∷ rows) = let rest = ends-inserts n (id + 1) rows in let one = sum_by-cons op_ends (ops.Insert n id vs) (inserts n (id + 1) rows) in omega (arith, rest, one)

pub inserts-none : (n id : ℕ) (rows : List (List Value)) → inserts n id rows ≡ [] → length rows ≡ 0
inserts-none n id [] h = refl
inserts-none n id (vs ∷ rows) h = cc

pub inserts-some : (n id : ℕ) (rows : List (List Value)) (op : Op) (rest : List Op) → inserts n id rows ≡ op ∷ rest → 0 < length rows
inserts-some n id [] op rest h = cc
inserts-some n id (vs ∷ rows) op rest h = omega arith
