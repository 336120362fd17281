-- Operations one after the other.
use Rattle.std.proofs.Common.{ℕ, zero, suc, ◌+◌, ◌*◌, ◌<◌, ◌≤◌, ◌≡◌, true, ◌&&◌, List, [], ◌∷◌, length, length-append, drop, Option, None, Some, refl, sym, subst, arith, IsTrue, IsSome, nat_le, leb-true, mul-le-mul_left, get_or}
use Rattle.std.specs.List.{list_all, sum_by}
use Rattle.std.proofs.lemmas.List.Sums.{sum_by-cons}
use Rattle.ut_value.specs.declared.value.Value.{Value}
use Rattle.ut_value.specs.declared.value.Value.TheVariants as values
use Rattle.ut_value.specs.declared.entry.Op.{Op}
use Rattle.ut_value.specs.declared.entry.Op.TheVariants as ops
use Rattle.ut_value.specs.KeyBytes.{is_value}
use Rattle.ut_value.specs.Text.{is_text_byte}
use Rattle.ut_value.specs.Spelling.{is_op, is_u16, is_u32, is_count, are_values, value_len, op_len}
use Rattle.ut_plain.specs.Tables.{fits_columns}
use Rattle.ut_plain.specs.Rows.{op_inserts, inserts_of}
use Rattle.ut_plain.proofs.BoolLemmas.{and_left, and_right, and_both}
use Rattle.ut_stamps.specs.declared.place.Place.{Place}
use Rattle.ut_exact.specs.Places.{StagedRow}
use Rattle.ut_scan.specs.declared.place.Found.{Found}
use Rattle.ut_table.specs.Finds.{hits_of}
use Rattle.ut_staged.specs.Staged.{Staged, row_at, entered_l1, ended_in}
use Rattle.ut_staged.specs.Staging.{new_row, written}
use Rattle.ut_staged.proofs.StageLemmas.{row-stays, count-ended}
use Rattle.ut_staged.proofs.StagingLemmas.{columns-ended, entered_stays}
use Rattle.ut_change.specs.Writes.{written_one, hits_behind, op_fits, op_ends, AreThere, CanWrite}

-- ---- an operation is short

value-short : (v : Value) → IsTrue (is_value v) → value_len v ≤ 257
value-short (values.Int x) h = omega arith
value-short (values.Text bytes) h = let few : length bytes ≤ 255 = leb-true (length bytes) 255 (and_left _ (list_all is_text_byte bytes) h) in omega arith

values-short : (vs : List Value) → IsTrue (list_all is_value vs) → sum_by value_len vs ≤ 257 * length vs
values-short [] h = omega arith
values-short (v ∷ vs) h =
    let rest : sum_by value_len vs ≤ 257 * length vs = values-short vs (and_right (is_value v) _ h) in
    let one = sum_by-cons value_len v vs in
    let short : value_len v ≤ 257 = value-short v (and_left (is_value v) _ h) in omega (arith, one)

pub op_len-short : (op : Op) → IsTrue (is_op op) → op_len op ≤ 16456
op_len-short (ops.Insert table id vs) h =
    let are : IsTrue (are_values vs) = and_right (is_u16 table && is_u32 id) _ h in
    let few : length vs ≤ 64 = leb-true (length vs) 64 (and_right (nat_le 1 (length vs)) _ (and_left (is_count 64 (length vs)) _ are)) in
    let bytes : sum_by value_len vs ≤ 257 * length vs = values-short vs (and_right (is_count 64 (length vs)) _ are) in
    omega (arith, mul-le-mul_left 257 few)
op_len-short (ops.Delete table id) h = omega arith

-- ---- one operation is written

stands_in : (t : ℕ) (p q : Place) (s : Staged) → IsSome (row_at s q) → IsSome (row_at (ended_in t p s) q)
stands_in t p q s h = by (row_at s q) refl h
  where
    by : (o : Option StagedRow) → row_at s q ≡ o → IsSome o → IsSome (row_at (ended_in t p s) q)
    by None is some = cc
    by (Some row) is some = let now = row-stays t p q s row is in subst IsSome (sym now.1) refl

pub AreThere-ended : (t : ℕ) (p : Place) (s : Staged) (hits : List (ℕ × Place)) → AreThere s hits → AreThere (ended_in t p s) hits
AreThere-ended t p s [] h = tt
AreThere-ended t p s (x ∷ xs) h = (stands_in t p x.1 s h.0, AreThere-ended t p s xs h.1)

stands_entered : (row : StagedRow) (q : Place) (s : Staged) → IsSome (row_at s q) → IsSome (row_at (entered_l1 row s) q)
stands_entered row q s h = by (row_at s q) refl h
  where
    by : (o : Option StagedRow) → row_at s q ≡ o → IsSome o → IsSome (row_at (entered_l1 row s) q)
    by None is some = cc
    by (Some r) is some = subst IsSome (sym (entered_stays s row r q is)) refl

pub AreThere-entered : (row : StagedRow) (s : Staged) (hits : List (ℕ × Place)) → AreThere s hits → AreThere (entered_l1 row s) hits
AreThere-entered row s [] h = tt
AreThere-entered row s (x ∷ xs) h = (stands_entered row x.1 s h.0, AreThere-entered row s xs h.1)

pub first_there : (s : Staged) (found : List Found) (d : Found) → 1 ≤ length found → AreThere s (hits_of found) → IsSome (row_at s (get_or found 0 d).place)
first_there s [] d some h = absurd (omega arith)
first_there s (f ∷ fs) d some h = h.0

-- ---- the first of some

pub can_first : (s : Staged) (hits : List (ℕ × Place)) (op : Op) (os : List Op) → CanWrite s hits (op ∷ os) → CanWrite s hits (op ∷ [])
can_first s hits op os h = record {
  fits = and_both (op_fits s.columns op) true (and_left (op_fits s.columns op) _ h.fits) refl;
  few = let f = h.few in omega (arith, f, sum_by-cons op_inserts op os, sum_by-cons op_inserts op []);
  there = h.there;
  enough = let e = h.enough in omega (arith, e, sum_by-cons op_ends op os, sum_by-cons op_ends op []);
}

pub room_first : (op : Op) (os : List Op) (spare left : ℕ) → inserts_of (op ∷ os) ≤ spare → spare ≤ left + op_inserts op → (op_inserts op ≤ spare) × (inserts_of os ≤ left)
room_first op os spare left h k = let one = sum_by-cons op_inserts op os in (omega arith, omega arith)

pub can_behind : (number : ℕ) (s : Staged) (hits : List (ℕ × Place)) (op : Op) (os : List Op) → CanWrite s hits (op ∷ os) → CanWrite (written_one number op hits s) (hits_behind op hits) os
can_behind number s hits (ops.Insert table id values) os h = record {
  fits = and_right (fits_columns s.columns values) _ h.fits;
  few = let f = h.few in omega (arith, f, sum_by-cons op_inserts (ops.Insert table id values) os, length-append s.l1 (new_row number id values ∷ []));
  there = AreThere-entered (new_row number id values) s hits h.there;
  enough = let e = h.enough in omega (arith, e, sum_by-cons op_ends (ops.Insert table id values) os);
}
can_behind number s [] (ops.Delete table id) os h = let e = h.enough in absurd (omega (arith, e, sum_by-cons op_ends (ops.Delete table id) os))
can_behind number s (x ∷ xs) (ops.Delete table id) os h = record {
  fits = subst (λ cs. IsTrue (list_all (op_fits cs) os)) (sym (columns-ended number x.1 s)) h.fits;
  few = let f = h.few in omega (arith, f, sum_by-cons op_inserts (ops.Delete table id) os, count-ended number x.1 s);
  there = AreThere-ended number x.1 s xs h.there.1;
  enough = let e = h.enough in omega (arith, e, sum_by-cons op_ends (ops.Delete table id) os);
}

pub written_first : (number : ℕ) (op : Op) (os : List Op) (hits : List (ℕ × Place)) (s : Staged) → CanWrite s hits (op ∷ os) → written number os (hits_behind op hits) (written_one number op hits s) ≡ written number (op ∷ os) hits s
written_first number (ops.Insert table id values) os hits s h = refl
written_first number (ops.Delete table id) os [] s h = let e = h.enough in absurd (omega (arith, e, sum_by-cons op_ends (ops.Delete table id) os))
written_first number (ops.Delete table id) os (x ∷ xs) s h = refl

-- ---- one of some

pub element_short : (os : List Op) (i : ℕ) (op : Op) → i < length os → op ≡ get_or os i op → IsTrue (list_all is_op (drop i os)) → op_len op ≤ 16456
element_short [] i op lt is h = absurd (omega arith)
element_short (o ∷ os) zero op lt is h = op_len-short op (subst (λ x. IsTrue (is_op x)) (sym is) (and_left (is_op o) _ h))
element_short (o ∷ os) (suc i) op lt is h = element_short os i op (omega arith) is h
