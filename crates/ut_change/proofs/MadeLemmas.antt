-- The operations of a delete and of an update.
use Rattle.std.proofs.Common.{ℕ, suc, ◌+◌, ◌<◌, ◌≤◌, ◌≡◌, true, ◌&&◌, List, [], ◌∷◌, length, map, refl, ap, arith, IsTrue, lt-ltb}
use Rattle.std.specs.List.{list_all}
use Rattle.std.proofs.lemmas.List.Sums.{sum_by-cons}
use Rattle.ut_value.specs.declared.value.Column.{Column}
use Rattle.ut_value.specs.declared.value.Value.{Value}
use Rattle.ut_value.specs.declared.entry.Op.{Op}
use Rattle.ut_value.specs.declared.entry.Op.TheVariants as ops
use Rattle.ut_value.specs.Spelling.{is_op, is_u16, is_u32, are_values}
use Rattle.ut_plain.specs.Tables.{fits_columns}
use Rattle.ut_plain.proofs.BoolLemmas.{and_both}
use Rattle.ut_stamps.specs.declared.place.Place.{Place}
use Rattle.ut_scan.specs.declared.place.Found.{Found}
use Rattle.ut_staged.proofs.StagingLemmas.{updates_of}
use Rattle.ut_table.specs.Finds.{hits_of}
use Rattle.ut_change.specs.Writes.{op_fits, op_ends, ends_of}

-- each id was given
abbrev pub AreGiven : ℕ → List (ℕ × Place) → Type 0
AreGiven next [] = Unit {0}
AreGiven next (x ∷ xs) = (x.0 < next) × AreGiven next xs

-- ---- deletes

-- the deletes of places
abbrev pub deletes_of : ℕ → List (ℕ × Place) → List Op
deletes_of n hits = map (λ (x : ℕ × Place). ops.Delete n x.0) hits

pub deletes-found : (n : ℕ) (found : List Found) → map (λ (f : Found). ops.Delete n f.id) found ≡ deletes_of n (hits_of found)
deletes-found n [] = refl
deletes-found n (f ∷ fs) = ap (λ os. ops.Delete n f.id ∷ os) (deletes-found n fs)

pub length-hits : (found : List Found) → length (hits_of found) ≡ length found
length-hits [] = refl
length-hits (f ∷ fs) = ap suc (length-hits fs)

pub deletes-fit : (columns : List Column) (n : ℕ) (hits : List (ℕ × Place)) → list_all (op_fits columns) (deletes_of n hits) ≡ true
deletes-fit columns n [] = refl
deletes-fit columns n (x ∷ xs) = deletes-fit columns n xs

pub deletes-rule : (n next : ℕ) (hits : List (ℕ × Place)) → n < 65536 → next ≤ 2147483649 → AreGiven next hits → IsTrue (list_all is_op (deletes_of n hits))
deletes-rule n next [] small few g = refl
deletes-rule n next (x ∷ xs) small few g =
    let lt = g.0 in
    and_both _ _ (and_both (is_u16 n) (is_u32 x.0) (lt-ltb n 65536 small) (lt-ltb x.0 4294967296 (omega arith))) (deletes-rule n next xs small few g.1)

pub ends-deletes : (n : ℕ) (hits : List (ℕ × Place)) → ends_of (deletes_of n hits) ≡ length hits
ends-deletes n [] = refl
ends-deletes n (x ∷ xs) = let rest = ends-deletes n xs in let one = sum_by-cons op_ends (ops.Delete n x.0) (deletes_of n xs) in omega (arith, rest, one)

pub deletes-none : (n : ℕ) (hits : List (ℕ × Place)) → deletes_of n hits ≡ [] → length hits ≡ 0
deletes-none n [] h = refl
deletes-none n (x ∷ xs) h = cc

pub deletes-some : (n : ℕ) (hits : List (ℕ × Place)) (op : Op) (rest : List Op) → deletes_of n hits ≡ op ∷ rest → 0 < length hits
deletes-some n [] op rest h = cc
deletes-some n (x ∷ xs) op rest h = omega arith

-- ---- updates

-- each of these rows fits columns, and may be spelled
abbrev pub AllFit : List Column → List (List Value) → Type 0
AllFit columns [] = Unit {0}
AllFit columns (vs ∷ rows) = IsTrue (fits_columns columns vs) × IsTrue (are_values vs) × AllFit columns rows

pub updates-fit : (columns : List Column) (n id : ℕ) (hits : List (ℕ × Place)) (rows : List (List Value)) → AllFit columns rows → list_all (op_fits columns) (updates_of n id hits rows) ≡ true
updates-fit columns n id [] rows h = refl
updates-fit columns n id (x ∷ xs) [] h = refl
updates-fit columns n id (x ∷ xs) (vs ∷ rows) h = and_both _ _ h.0 (updates-fit columns n (id + 1) xs rows h.2)

pub updates-rule : (columns : List Column) (n next id : ℕ) (hits : List (ℕ × Place)) (rows : List (List Value)) → n < 65536 → next ≤ 2147483649 → id + length hits ≤ 2147483649 → AreGiven next hits → AllFit columns rows → IsTrue (list_all is_op (updates_of n id hits rows))
updates-rule columns n next id [] rows small few room g h = refl
updates-rule columns n next id (x ∷ xs) [] small few room g h = refl
updates-rule columns n next id (x ∷ xs) (vs ∷ rows) small few room g h =
    let given = g.0 in
    let table : IsTrue (is_u16 n) = lt-ltb n 65536 small in
    and_both _ _ (and_both (is_u16 n) (is_u32 x.0) table (lt-ltb x.0 4294967296 (omega arith)))
    (and_both _ _ (and_both (is_u16 n && is_u32 id) (are_values vs) (and_both (is_u16 n) (is_u32 id) table (lt-ltb id 4294967296 (omega arith))) h.1)
    (updates-rule columns n next (id + 1) xs rows small few (omega arith) g.1 h.2))

pub ends-updates : (n id : ℕ) (hits : List (ℕ × Place)) (rows : List (List Value)) → ends_of (updates_of n id hits rows) ≤ length hits
ends-updates n id [] rows = omega arith
ends-updates n id (x ∷ xs) [] = omega arith
ends-updates n id (x ∷ xs) (vs ∷ rows) =
    let rest = ends-updates n (id + 1) xs rows in
    let one = sum_by-cons op_ends (ops.Delete n x.0) (ops.Insert n id vs ∷ updates_of n (id + 1) xs rows) in
    let two = sum_by-cons op_ends (ops.Insert n id vs) (updates_of n (id + 1) xs rows) in omega (arith, rest, one, two)
