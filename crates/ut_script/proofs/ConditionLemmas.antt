-- One more comparison of a list of comparisons.
use Rattle.std.proofs.Common.{ℕ, ◌≡◌, ◌<◌, Bool, true, false, cond, List, [], ◌∷◌, ◌++◌, length, Option, None, Some, refl, ap, ◌∙◌, sym, append_assoc, arith}
use Rattle.std.specs.Prelude.{is_some, codes}
use Rattle.std.specs.Option.{option_map}
use Rattle.ut_value.specs.Text.{same_bytes}
use Rattle.ut_plain.specs.declared.statement.Pred.{Pred}
use Rattle.ut_key.specs.declared.comparison.Cmp.{Cmp}
use Rattle.ut_value.specs.Text.{is_name}
use Rattle.ut_value.specs.declared.value.Value.{Value}
use Rattle.ut_script.specs.Literals.{name_of, value_of}
use Rattle.ut_script.specs.Conditions.{operator_of, comparison_of, comparison_with, comparisons_of, conditions_of, onto_comparisons}

onto_some : (p : Option Pred) (ps : Option (List Pred)) → is_some p ≡ true → is_some (onto_comparisons p ps) ≡ is_some ps
onto_some None ps h = cc
onto_some (Some p) None h = refl
onto_some (Some p) (Some ps) h = refl

onto_none : (p : Option Pred) (ps : Option (List Pred)) → is_some p ≡ false → is_some (onto_comparisons p ps) ≡ false
onto_none None ps h = refl
onto_none (Some p) ps h = cc

stopped : (t : Bool) (p : Option Pred) (ps : Option (List Pred)) → is_some p ≡ false → is_some (cond t (onto_comparisons p ps) None) ≡ false
stopped true p ps h = onto_none p ps h
stopped false p ps h = refl

-- one more comparison
pub comparisons-next : (c op v joint : List ℕ) (words : List (List ℕ)) → is_some (comparison_of c op v) ≡ true → same_bytes joint (codes "and") ≡ true
    → is_some (comparisons_of words) ≡ is_some (comparisons_of (c ∷ op ∷ v ∷ joint ∷ words))
comparisons-next c op v joint words h k =
    sym (onto_some (comparison_of c op v) (comparisons_of words) h) ∙ ap (λ (t : Bool). is_some (cond t (onto_comparisons (comparison_of c op v) (comparisons_of words)) None)) (sym k)

moved : (front : List Pred) (p : Pred) (o : Option (List Pred)) → option_map (λ l. (front ++ p ∷ []) ++ l) o ≡ option_map (λ l. front ++ l) (option_map (λ l. p ∷ l) o)
moved front p None = refl
moved front p (Some l) = ap (λ l. Some l) (append_assoc front (p ∷ []) l)

-- one more comparison of the whole
pub preds-next : (front : List Pred) (c op v joint : List ℕ) (words : List (List ℕ)) (p : Pred) (whole : Option (List Pred)) → same_bytes joint (codes "and") ≡ true → comparison_of c op v ≡ Some p
    → option_map (λ l. front ++ l) (comparisons_of (c ∷ op ∷ v ∷ joint ∷ words)) ≡ whole → option_map (λ l. (front ++ p ∷ []) ++ l) (comparisons_of words) ≡ whole
preds-next front c op v joint words p whole k h e =
    moved front p (comparisons_of words)
    ∙ ap (λ (o : Option Pred). option_map (λ l. front ++ l) (onto_comparisons o (comparisons_of words))) (sym h)
    ∙ ap (λ (t : Bool). option_map (λ l. front ++ l) (cond t (onto_comparisons (comparison_of c op v) (comparisons_of words)) None)) (sym k)
    ∙ e

-- the last comparison of the whole
pub preds-last : (front : List Pred) (c op v : List ℕ) (p : Pred) → comparison_of c op v ≡ Some p → option_map (λ l. front ++ l) (comparisons_of (c ∷ op ∷ v ∷ [])) ≡ Some (front ++ p ∷ [])
preds-last front c op v p h = ap (λ (o : Option Pred). option_map (λ l. front ++ l) (onto_comparisons o (Some []))) h

-- words that begin with no comparison are none
pub preds-none : (c op v : List ℕ) (words : List (List ℕ)) → comparison_of c op v ≡ None → comparisons_of (c ∷ op ∷ v ∷ words) ≡ None
preds-none c op v [] h = ap (λ (o : Option Pred). onto_comparisons o (Some [])) h
preds-none c op v (joint ∷ words) h = by (same_bytes joint (codes "and"))
  where
    by : (t : Bool) → cond t (onto_comparisons (comparison_of c op v) (comparisons_of words)) None ≡ None
    by true = ap (λ (o : Option Pred). onto_comparisons o (comparisons_of words)) h
    by false = refl

named : (t : Bool) (front name : List ℕ) (op : Cmp) (value : Value) → cond t (Some front) None ≡ Some name
    → let P = λ (n : List ℕ). (let p : Pred = record { column = n; op = op; value = value } in p) in cond t (Some (P front)) None ≡ Some (P name)
named true front name op value h = ap (λ (o : Option (List ℕ)). option_map (λ n. (let p : Pred = record { column = n; op = op; value = value } in p)) o) h
named false front name op value h = cc

-- a comparison, by its column, its operator and its value
pub comparison_of-is : (c op v name : List ℕ) (cmp : Cmp) (value : Value) → name_of c ≡ Some name → operator_of op ≡ Some cmp → value_of v ≡ Some value
    → comparison_of c op v ≡ Some (record { column = name; op = cmp; value = value })
unfolding comparison_of
comparison_of-is c op v name cmp value h k m =
    ap (λ (o : Option Cmp). comparison_with c o (value_of v)) k
    ∙ ap (λ (o : Option Value). comparison_with c (Some cmp) o) m
    ∙ named (is_name c) c name cmp value h
