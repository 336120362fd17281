-- The inserts of a bulk, row by row.
use Rattle.std.proofs.Common.{◌≡◌, ℕ, zero, suc, ◌+◌, ◌-◌, ◌≤◌, List, [], ◌∷◌, ◌++◌, length, take, drop, IsTrue, refl, sym, ap, ◌∙◌, append_assoc, arith}
use Rattle.std.specs.List.{list_all}
use Rattle.std.proofs.lemmas.List.{take-append-drop, append-nil}
use Rattle.std.proofs.lemmas.List.Sums.{sum_by-cons}
use Rattle.ut_value.specs.declared.value.Value.{Value}
use Rattle.ut_value.specs.declared.entry.Op.{Op}
use Rattle.ut_value.specs.declared.entry.Entry.TheVariants.{Txn}
use Rattle.ut_value.specs.Spelling.{spelling, is_op, op_len, ops_len}
use Rattle.ut_plain.specs.Made.{rows_of, inserts}
use Rattle.ut_plain.proofs.BoolLemmas.{and_left}
use Rattle.ut_change.specs.declared.bulk.Bulk.{Bulk}
use Rattle.ut_change.specs.Bulks.{bulk_ops}
use Rattle.ut_change.proofs.WriteLemmas.{op_len-short}

-- one operation more was done, and those behind it are left
pub done-one : {A : Type 0} (k : ℕ) (all : List A) (x : A) (rest : List A) → drop k all ≡ x ∷ rest → (take (suc k) all ≡ take k all ++ x ∷ []) × (drop (suc k) all ≡ rest)
done-one zero [] x rest h = cc
done-one zero (y ∷ ys) x rest h = (cc, cc)
done-one (suc k) [] x rest h = cc
done-one (suc k) (y ∷ ys) x rest h = let more = done-one k ys x rest h in (ap (λ l. y ∷ l) more.0, more.1)

-- none is left
pub done-all : {A : Type 0} (k : ℕ) (all : List A) → drop k all ≡ [] → take k all ≡ all
done-all k all h = sym (append-nil (take k all)) ∙ ap (λ l. take k all ++ l) (sym h) ∙ take-append-drop k all

-- a bulk without values has no inserts
pub none-left : (table id width : ℕ) (values : List Value) → length values ≤ 0 → inserts table id (rows_of width values) ≡ []
none-left table id width [] h = refl
none-left table id width (v ∷ vs) h = absurd (omega (arith, h))

-- the first insert is short, and the others keep the rule
pub first-short : (op : Op) (os : List Op) → IsTrue (list_all is_op (op ∷ os)) → op_len op ≤ 16456
first-short op os h = op_len-short op (and_left (is_op op) (list_all is_op os) h)

-- the bytes of a bulk are those of its first insert, and of the rows behind it
pub first-len : (rest behind : Bulk) (op : Op) → bulk_ops rest ≡ op ∷ bulk_ops behind → ops_len (bulk_ops rest) ≡ op_len op + ops_len (bulk_ops behind)
first-len rest behind op is = ap ops_len is ∙ sum_by-cons op_len op (bulk_ops behind)

-- One row more of a bulk is done: what is left, and what was done.
module _ (all rest behind : Bulk) (op : Op) (is : bulk_ops rest ≡ op ∷ bulk_ops behind) (id : behind.id ≡ rest.id + 1) (from : all.id ≤ rest.id) (left : drop (rest.id - all.id) (bulk_ops all) ≡ bulk_ops rest) where
  next : behind.id - all.id ≡ suc (rest.id - all.id)
  next = omega (arith, id, from)

  pub left-behind : drop (behind.id - all.id) (bulk_ops all) ≡ bulk_ops behind
  left-behind = ap (λ n. drop n (bulk_ops all)) next ∙ (done-one (rest.id - all.id) (bulk_ops all) op (bulk_ops behind) (left ∙ is)).1

  -- what is spelled before the row and then it
  pub done-next : (ps : List Op) → spelling (Txn ((ps ++ take (rest.id - all.id) (bulk_ops all)) ++ op ∷ [])) ≡ spelling (Txn (ps ++ take (behind.id - all.id) (bulk_ops all)))
  done-next ps =
      let k = rest.id - all.id in
      let one = done-one k (bulk_ops all) op (bulk_ops behind) (left ∙ is) in
      ap (λ os. spelling (Txn os)) (append_assoc ps (take k (bulk_ops all)) (op ∷ []) ∙ ap (λ os. ps ++ os) (sym one.0) ∙ ap (λ n. ps ++ take n (bulk_ops all)) (sym next))

-- all was done
pub done-spelled : (all rest : Bulk) (ps : List Op) → drop (rest.id - all.id) (bulk_ops all) ≡ bulk_ops rest → length rest.values.now ≤ 0
    → spelling (Txn (ps ++ take (rest.id - all.id) (bulk_ops all))) ≡ spelling (Txn (ps ++ bulk_ops all))
done-spelled all rest ps left none =
    ap (λ os. spelling (Txn (ps ++ os))) (done-all (rest.id - all.id) (bulk_ops all) (left ∙ none-left rest.table rest.id rest.width rest.values.now none))
