-- A row meets comparisons where its keys meet them.
use Rattle.std.proofs.Common.{◌≡◌, suc, ◌+◌, ◌<◌, Bool, true, false, ◌&&◌, ◌||◌, cond, not, List, [], ◌∷◌, length, map, get_or, IsTrue, None, Some, nat_lt, refl, sym, ◌∙◌, ap, arith, true≢false}
use Rattle.std.specs.Prelude.{slice_get}
use Rattle.std.specs.Option.{unwrap_or, option_map, option_and_then}
use Rattle.std.specs.List.{list_all, list_any, position, position_or_len, find}
use Rattle.std.proofs.lemmas.Bool.{ltb-false}
use Rattle.ut_key.specs.Keys.{key_cmp, allows, meets as key_meets}
use Rattle.ut_value.specs.declared.value.Value.{Value}
use Rattle.ut_value.specs.declared.value.Column.{Column}
use Rattle.ut_value.specs.declared.value.Row.{Row}
use Rattle.ut_value.specs.KeyBytes.{key_of, is_of_kind, is_value}
use Rattle.ut_value.specs.Text.{same_bytes}
use Rattle.ut_value.specs.Spelling.{has_column}
use Rattle.ut_value.proofs.KeyLemmas.{keys_in_order}
use Rattle.ut_plain.specs.declared.statement.Pred.{Pred}
use Rattle.ut_plain.specs.Tables.{fits_columns}
use Rattle.ut_plain.specs.Names.{preds_known}
use Rattle.ut_plain.specs.Kinds.{kind_in, has_kind, preds_fit}
use Rattle.ut_plain.specs.Condition.{value_in, value_meets, meets}
use Rattle.ut_plain.proofs.BoolLemmas.{and_left, and_right}
use Rattle.ut_l2.specs.KeyRows.{keyed, key_at}
use Rattle.ut_key.specs.declared.comparison.ColumnPred.{ColumnPred}
use Rattle.ut_scan.specs.Finds.{passes}
use Rattle.ut_plain.specs.Compiled.{column_pred, Compiles}
use Rattle.ut_table.specs.Kept.{IsRow}

-- the place of the first element that passes, if one does
found-within : {X : Type 0} (test : X → Bool) (xs : List X) → list_any test xs ≡ true → position_or_len test xs < length xs
found-within test [] h = absurd (true≢false (sym h))
found-within test (x ∷ xs) h = by (test x) (found-within test xs) h
  where
    by : (b : Bool) → (list_any test xs ≡ true → position_or_len test xs < length xs) → (b || list_any test xs) ≡ true → cond (not b) (1 + position_or_len test xs) 0 < suc (length xs)
    by true more h = omega arith
    by false more h = let lt : position_or_len test xs < length xs = more h in omega arith

position-found : {X : Type 0} (test : X → Bool) (xs : List X) → list_any test xs ≡ true → position test xs ≡ Some (position_or_len test xs)
position-found test xs h = by (nat_lt (position_or_len test xs) (length xs)) refl
  where
    by : (b : Bool) → nat_lt (position_or_len test xs) (length xs) ≡ b → cond b (Some (position_or_len test xs)) None ≡ Some (position_or_len test xs)
    by true e = refl
    by false e = absurd (omega (arith, found-within test xs h, ltb-false (position_or_len test xs) (length xs) e))

-- one comparison, in the first column of its name
module _ (pred : Pred) (rule : IsTrue (is_value pred.value)) where
  met-keys : (cs : List Column) (vs : List Value) → IsTrue (fits_columns cs vs) → IsTrue (list_all is_value vs) → has_column cs pred.column ≡ true → IsTrue (has_kind pred.value (kind_in cs pred.column))
      → allows pred.op (key_cmp (get_or (map key_of vs) (position_or_len (λ (c : Column). same_bytes c.name pred.column) cs) []) (key_of pred.value)) ≡ value_meets pred (slice_get vs (position_or_len (λ (c : Column). same_bytes c.name pred.column) cs))
  met-keys [] vs fits kept known fit = absurd (true≢false (sym known))
  met-keys (c ∷ cs) [] fits kept known fit = absurd (true≢false (sym fits))
  met-keys (c ∷ cs) (v ∷ vs) fits kept known fit =
      by (same_bytes c.name pred.column)
      (met-keys cs vs (and_right (is_of_kind c.kind v) (fits_columns cs vs) fits) (and_right (is_value v) (list_all is_value vs) kept)) known fit
    where
      by : (b : Bool)
          → (has_column cs pred.column ≡ true → IsTrue (has_kind pred.value (kind_in cs pred.column)) → allows pred.op (key_cmp (get_or (map key_of vs) (position_or_len (λ (x : Column). same_bytes x.name pred.column) cs) []) (key_of pred.value)) ≡ value_meets pred (slice_get vs (position_or_len (λ (x : Column). same_bytes x.name pred.column) cs)))
          → (b || has_column cs pred.column) ≡ true
          → IsTrue (has_kind pred.value (option_map (λ (x : Column). x.kind) (cond b (Some c) (find (λ (x : Column). same_bytes x.name pred.column) cs))))
          → let n = cond (not b) (1 + position_or_len (λ (x : Column). same_bytes x.name pred.column) cs) 0 in
          allows pred.op (key_cmp (get_or (key_of v ∷ map key_of vs) n []) (key_of pred.value)) ≡ value_meets pred (slice_get (v ∷ vs) n)
      by true rec known fit =
          ap (allows pred.op) (keys_in_order c.kind (key_of v) (key_of pred.value) v pred.value
          (and_left (is_of_kind c.kind v) (fits_columns cs vs) fits, and_left (is_value v) (list_all is_value vs) kept, refl)
          (fit, rule, refl))
      by false rec known fit =
          let n = position_or_len (λ (x : Column). same_bytes x.name pred.column) cs in
          let next : 1 + n ≡ suc n = omega arith in
          ap (λ k. allows pred.op (key_cmp (get_or (key_of v ∷ map key_of vs) k []) (key_of pred.value))) next
          ∙ rec known fit
          ∙ sym (ap (λ k. value_meets pred (slice_get (v ∷ vs) k)) next)

  met-pred : (columns : List Column) (row : Row) → IsRow columns row → has_column columns pred.column ≡ true → IsTrue (has_kind pred.value (kind_in columns pred.column))
      → let p = column_pred columns pred in key_meets p.op p.key (key_at p.column (keyed row)) ≡ value_meets pred (value_in columns row.values pred.column)
  met-pred columns row is known fit =
      let found = position-found (λ (c : Column). same_bytes c.name pred.column) columns known in
      ap (λ o. allows pred.op (key_cmp (get_or (map key_of row.values) (unwrap_or o 0) []) (key_of pred.value))) found
      ∙ met-keys columns row.values is.fits is.kept known fit
      ∙ sym (ap (λ o. value_meets pred (option_and_then (slice_get row.values) o)) found)

met-preds : (columns : List Column) (row : Row) → IsRow columns row → (asked : List Pred) → IsTrue (preds_known asked columns) → IsTrue (preds_fit columns asked) → IsTrue (list_all (λ (p : Pred). is_value p.value) asked)
    → passes (map (column_pred columns) asked) (keyed row) ≡ meets columns asked row.values
met-preds columns row is [] known fit rules = refl
met-preds columns row is (p ∷ ps) known fit rules = λ i. met-pred p (and_left (is_value p.value) _ rules) columns row is (and_left (has_column columns p.column) _ known) (and_left (has_kind p.value (kind_in columns p.column)) _ fit) i
    && met-preds columns row is ps (and_right (has_column columns p.column) _ known) (and_right (has_kind p.value (kind_in columns p.column)) _ fit) (and_right (is_value p.value) _ rules) i

-- a row meets the compiled comparisons where it meets those that were asked for
pub passes-compiled : (columns : List Column) (row : Row) → IsRow columns row → (asked : List Pred) (preds : List ColumnPred) → Compiles columns asked preds → passes preds (keyed row) ≡ meets columns asked row.values
passes-compiled columns row is asked preds c = ap (λ ps. passes ps (keyed row)) c.are ∙ met-preds columns row is asked c.known c.fit c.rules.each
