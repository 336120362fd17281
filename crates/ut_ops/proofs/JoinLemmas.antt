-- The pairs of rows with equal values.
use Rattle.std.proofs.Common.{◌≡◌, ℕ, zero, suc, ◌+◌, ◌<◌, Bool, true, false, cond, List, [], ◌∷◌, ◌++◌, length, map, filter, drop, take, get_or, None, Some, refl, sym, ap, ◌∙◌, subst, arith, unwrap_or, IsTrue, slice_get}
use Rattle.std.proofs.lemmas.List.{take_more}
use Rattle.std.proofs.lemmas.Option.{same_Some, slice_get-map, slice_get-get_or}
use Rattle.std.specs.Option.{option_map, option_and_then}
use Rattle.std.specs.List.{flat_map}
use Rattle.std.specs.Ordering.{is_eq}
use Rattle.std.specs.BTreeMap.{BTreeMap, get}
use Rattle.ut_value.specs.declared.value.Value.{Value}
use Rattle.ut_value.specs.KeyOrder.{value_cmp}
use Rattle.ut_plain.specs.declared.table.Stored.{Stored}
use Rattle.ut_plain.specs.Tables.{column_of}
use Rattle.ut_plain.specs.Condition.{value_in}
use Rattle.ut_plain.specs.Query.{same_value, joined}
use Rattle.ut_scan.specs.declared.place.Found.{Found}
use Rattle.ut_exact.specs.Scan.{stored_in}
use Rattle.ut_staged.specs.Staged.{Staged, row_at}
use Rattle.ut_table.specs.Finds.{rows_at}
use Rattle.ut_ops.specs.ValueOrder.{equal_values}
use Rattle.ut_ops.specs.Fit.{Fit, is_row, cell, values_at}
use Rattle.ut_ops.specs.Index.{listed, with_cell, IsIndex, AreFit, beside}
use Rattle.ut_ops.proofs.ColumnLemmas.{fit_first, fit_rest, stored_cell, stored_values, column_below, all_cons}
use Rattle.ut_ops.proofs.TallyLemmas.{equal, eq_turned}

-- ---- the index

pub listed_more : (old mid new : BTreeMap Value (List Found)) (value : Value) (hit : Found) (hits : List Found)
    → ((q : Value) → get value_cmp mid q ≡ cond (is_eq (value_cmp value q)) None (get value_cmp old q))
    → ((q : Value) → get value_cmp new q ≡ cond (is_eq (value_cmp value q)) (Some hits) (get value_cmp mid q))
    → hits ≡ listed old value ++ hit ∷ [] → (v : Value) → listed new v ≡ cond (is_eq (value_cmp v value)) (listed old v ++ hit ∷ []) (listed old v)
listed_more old mid new value hit hits out in_again is v =
    ap (λ o. unwrap_or o []) (in_again v ∙ ap (cond (is_eq (value_cmp value v)) (Some hits)) (out v))
    ∙ by (is_eq (value_cmp value v)) refl
  where
    by : (b : Bool) → is_eq (value_cmp value v) ≡ b → unwrap_or (cond b (Some hits) (cond b None (get value_cmp old v))) [] ≡ cond (is_eq (value_cmp v value)) (listed old v ++ hit ∷ []) (listed old v)
    by true e =
        is ∙ ap (λ w. listed old w ++ hit ∷ []) (equal_values value v (equal (value_cmp value v) e))
        ∙ sym (ap (λ b. cond b (listed old v ++ hit ∷ []) (listed old v)) (eq_turned v value ∙ e))
    by false e = sym (ap (λ b. cond b (listed old v ++ hit ∷ []) (listed old v)) (eq_turned v value ∙ e))

filter-push : {X : Type 0} (p : X → Bool) (xs : List X) (x : X) → filter p (xs ++ x ∷ []) ≡ filter p xs ++ cond (p x) (x ∷ []) []
filter-push p [] x = refl
filter-push p (y ∷ ys) x = by (p y) (filter-push p ys x)
  where
    by : (b : Bool) → filter p (ys ++ x ∷ []) ≡ filter p ys ++ cond (p x) (x ∷ []) [] → cond b (y ∷ filter p (ys ++ x ∷ [])) (filter p (ys ++ x ∷ [])) ≡ cond b (y ∷ filter p ys) (filter p ys) ++ cond (p x) (x ∷ []) []
    by true more = λ i. y ∷ more i
    by false more = more

-- a row more under its value
pub index-next : (s : Staged) (c : ℕ) (fs : List Found) (i : ℕ) (d : Found) (index new : BTreeMap Value (List Found)) (v : Value) → i < length fs → v ≡ cell s c (get_or fs i d) → IsIndex s c (take i fs) index
    → ((w : Value) → listed new w ≡ cond (is_eq (value_cmp w v)) (listed index w ++ get_or fs i d ∷ []) (listed index w)) → IsIndex s c (take (i + 1) fs) new
index-next s c fs i d index new v lt is old more = record {
  each = λ w.
      more w ∙ by (is_eq (value_cmp w v)) (listed index w)
      ∙ (λ k. old.each w k ++ cond (is_eq (value_cmp w (is k))) (get_or fs i d ∷ []) [])
      ∙ sym (filter-push (λ (f : Found). is_eq (value_cmp w (cell s c f))) (take i fs) (get_or fs i d))
      ∙ ap (with_cell s c w) (sym (take_more fs i d lt));
}
  where
    nothing : {X : Type 0} (xs : List X) → xs ≡ xs ++ []
    nothing [] = refl
    nothing (x ∷ xs) = λ k. x ∷ nothing xs k

    by : (b : Bool) (gs : List Found) → cond b (gs ++ get_or fs i d ∷ []) gs ≡ gs ++ cond b (get_or fs i d ∷ []) []
    by true gs = refl
    by false gs = nothing gs

-- what was read for a row
pub value-read : (s : Staged) (c : ℕ) (fs : List Found) (i : ℕ) (d : Found) (keys : List Value) (v : Value) → i < length fs → keys ≡ map (cell s c) fs → slice_get keys i ≡ Some v → v ≡ cell s c (get_or fs i d)
value-read s c fs i d keys v lt is at =
    same_Some v (cell s c (get_or fs i d)) (sym at ∙ ap (λ ks. slice_get ks i) is ∙ slice_get-map (cell s c) fs i ∙ ap (option_map (cell s c)) (slice_get-get_or fs i d lt))

-- some of the rows that fit
fit_filter : (s : Staged) (test : Found → Bool) (fs : List Found) → Fit s fs → Fit s (filter test fs)
fit_filter s test [] fit = fit
fit_filter s test (f ∷ fs) fit = by (test f) (fit_filter s test fs (fit_rest s f fs fit))
  where
    by : (b : Bool) → Fit s (filter test fs) → Fit s (cond b (f ∷ filter test fs) (filter test fs))
    by true rest = record { each = all_cons (λ (g : Found). IsTrue (is_row s.columns (row_at s g.place))) f (filter test fs) (fit_first s f fs fit) rest.each }
    by false rest = rest

pub index_fits : (s : Staged) (c : ℕ) (fs : List Found) (index : BTreeMap Value (List Found)) → Fit s fs → IsIndex s c fs index → AreFit s index
index_fits s c fs index fit is = record { each = λ v. subst (Fit s) (sym (is.each v)) (fit_filter s (λ (f : Found). is_eq (value_cmp v (cell s c f))) fs fit) }

-- ---- one row after the other

-- what is made of each element so far, and of those that are left
flat_step : {X A : Type 0} (f : X → List A) (xs : List X) (i : ℕ) (d : X) (done all : List A) → i < length xs → done ++ flat_map f (drop i xs) ≡ all → (done ++ f (get_or xs i d)) ++ flat_map f (drop (i + 1) xs) ≡ all
flat_step f [] i d done all h k = absurd (omega arith)
flat_step f (y ∷ ys) zero d done all h k = joined_lists done (f y) (flat_map f ys) ∙ k
  where
    joined_lists : {A : Type 0} (xs ys zs : List A) → (xs ++ ys) ++ zs ≡ xs ++ (ys ++ zs)
    joined_lists [] ys zs = refl
    joined_lists (x ∷ xs) ys zs = ap (λ ws. x ∷ ws) (joined_lists xs ys zs)
flat_step f (y ∷ ys) (suc i) d done all h k =
    let next : suc i + 1 ≡ suc (i + 1) = omega arith in
    ap (λ j. (done ++ f (get_or ys i d)) ++ flat_map f (drop j (y ∷ ys))) next ∙ flat_step f ys i d done all (omega arith) k

pub flat_more : {X A : Type 0} (f : X → List A) (xs : List X) (i : ℕ) (d : X) (done more now all : List A) → i < length xs → more ≡ f (get_or xs i d) → now ≡ done ++ more → done ++ flat_map f (drop i xs) ≡ all → now ++ flat_map f (drop (i + 1) xs) ≡ all
flat_more f xs i d done more now all h m n k = ap (λ ys. ys ++ flat_map f (drop (i + 1) xs)) (n ∙ ap (λ ys. done ++ ys) m) ∙ flat_step f xs i d done all h k

-- ---- all pairs

-- the right rows of one left row
partners : (m : ℕ) (s : Staged) (name : List ℕ) (d : ℕ) (row : List Value) (v : Value) (fs : List Found) → Fit s fs → column_of s.columns name ≡ Some d
    → beside row s (with_cell s d v fs) ≡ map (λ (y : ℕ × Stored). row ++ y.1.values) (filter (λ (y : ℕ × Stored). same_value (Some v) (value_in s.columns y.1.values name)) (rows_at m s fs))
partners m s name d row v [] fit at = refl
partners m s name d row v (f ∷ fs) fit at =
    by (is_eq (value_cmp v (cell s d f))) (partners m s name d row v fs (fit_rest s f fs fit) at)
    ∙ (λ i. map (λ (y : ℕ × Stored). row ++ y.1.values) (cond (same_value (Some v) (sym value_is i)) ((f.id, stored_in m (row_at s f.place)) ∷ filter (λ (y : ℕ × Stored). same_value (Some v) (value_in s.columns y.1.values name)) (rows_at m s fs)) (filter (λ (y : ℕ × Stored). same_value (Some v) (value_in s.columns y.1.values name)) (rows_at m s fs))))
  where
    value_is : value_in s.columns (stored_in m (row_at s f.place)).values name ≡ Some (cell s d f)
    value_is = ap (option_and_then (slice_get (stored_in m (row_at s f.place)).values)) at ∙ stored_cell m s d f (fit_first s f fs fit) (column_below s.columns name d at)

    by : (b : Bool) → beside row s (with_cell s d v fs) ≡ map (λ (y : ℕ × Stored). row ++ y.1.values) (filter (λ (y : ℕ × Stored). same_value (Some v) (value_in s.columns y.1.values name)) (rows_at m s fs))
        → beside row s (cond b (f ∷ with_cell s d v fs) (with_cell s d v fs))
        ≡ map (λ (y : ℕ × Stored). row ++ y.1.values) (cond b ((f.id, stored_in m (row_at s f.place)) ∷ filter (λ (y : ℕ × Stored). same_value (Some v) (value_in s.columns y.1.values name)) (rows_at m s fs)) (filter (λ (y : ℕ × Stored). same_value (Some v) (value_in s.columns y.1.values name)) (rows_at m s fs)))
    by true more = λ i. (row ++ sym (stored_values m (row_at s f.place)) i) ∷ more i
    by false more = more

pub joined_is : (n m : ℕ) (l r : Staged) (left right : List ℕ) (c d : ℕ) (fs gs : List Found) → Fit l fs → Fit r gs → column_of l.columns left ≡ Some c → column_of r.columns right ≡ Some d
    → flat_map (λ f. beside (values_at l f) r (with_cell r d (cell l c f) gs)) fs ≡ joined l.columns left (rows_at n l fs) r.columns right (rows_at m r gs)
joined_is n m l r left right c d [] gs fit other at bt = refl
joined_is n m l r left right c d (f ∷ fs) gs fit other at bt = λ i. one i ++ joined_is n m l r left right c d fs gs (fit_rest l f fs fit) other at bt i
  where
    value_is : value_in l.columns (stored_in n (row_at l f.place)).values left ≡ Some (cell l c f)
    value_is = ap (option_and_then (slice_get (stored_in n (row_at l f.place)).values)) at ∙ stored_cell n l c f (fit_first l f fs fit) (column_below l.columns left c at)

    one : beside (values_at l f) r (with_cell r d (cell l c f) gs)
        ≡ map (λ (y : ℕ × Stored). (stored_in n (row_at l f.place)).values ++ y.1.values) (filter (λ (y : ℕ × Stored). same_value (value_in l.columns (stored_in n (row_at l f.place)).values left) (value_in r.columns y.1.values right)) (rows_at m r gs))
    one =
        partners m r right d (values_at l f) (cell l c f) gs other bt
        ∙ (λ i. map (λ (y : ℕ × Stored). sym (stored_values n (row_at l f.place)) i ++ y.1.values) (filter (λ (y : ℕ × Stored). same_value (sym value_is i) (value_in r.columns y.1.values right)) (rows_at m r gs)))
