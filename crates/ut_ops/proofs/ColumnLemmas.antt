-- The values of a column, of rows that were found.
use Rattle.std.proofs.Common.{ℕ, zero, suc, ◌+◌, ◌<◌, ◌≡◌, Bool, true, false, not, cond, List, [], ◌∷◌, length, map, Option, None, Some, refl, sym, ap, ◌∙◌, arith, slice_get, IsTrue, true≢false}
use Rattle.std.specs.Option.{option_and_then}
use Rattle.std.specs.List.{list_all, filter_map, find, position_or_len, All, cons_option}
use Rattle.ut_value.specs.declared.value.Value.{Value}
use Rattle.ut_value.specs.declared.value.Column.{Column}
use Rattle.ut_value.specs.Text.{same_bytes}
use Rattle.ut_plain.specs.declared.table.Stored.{Stored}
use Rattle.ut_plain.specs.Tables.{column_of, fits_columns}
use Rattle.ut_plain.specs.Condition.{value_in}
use Rattle.ut_plain.specs.Query.{column_values, picked}
use Rattle.ut_plain.proofs.ListLemmas.{position_below}
use Rattle.ut_scan.specs.declared.place.Found.{Found}
use Rattle.ut_exact.specs.Places.{StagedRow}
use Rattle.ut_exact.specs.Scan.{stored_in}
use Rattle.ut_staged.specs.Staged.{Staged, row_at}
use Rattle.ut_table.specs.Finds.{rows_at}
use Rattle.ut_ops.specs.Fit.{Fit, is_row, values_in, values_at, cell}
use Rattle.ut_value.specs.KeyBytes.{is_value, is_of_kind}
use Rattle.ut_plain.proofs.BoolLemmas.{and_left, and_right}
use Rattle.ut_ops.proofs.CellLemmas.{is_cell}

-- ---- rows that fit

pub fit_first : (s : Staged) (f : Found) (fs : List Found) → Fit s (f ∷ fs) → IsTrue (is_row s.columns (row_at s f.place))
fit_first s f fs fit = let some : 0 < length (f ∷ fs) = omega arith in fit.each 0 f some

pub fit_rest : (s : Staged) (f : Found) (fs : List Found) → Fit s (f ∷ fs) → Fit s fs
fit_rest s f fs fit = record { each = λ k d h. let more : suc k < length (f ∷ fs) = omega arith in fit.each (suc k) d more }

-- ---- whole rows

fits-length : (columns : List Column) (values : List Value) → IsTrue (fits_columns columns values) → length values ≡ length columns
fits-length [] [] h = refl
fits-length [] (v ∷ vs) h = absurd (true≢false (sym h))
fits-length (c ∷ cs) [] h = absurd (true≢false (sym h))
fits-length (c ∷ cs) (v ∷ vs) h = ap suc (fits-length cs vs (and_right (is_of_kind c.kind v) (fits_columns cs vs) h))

-- a row that fits has a value for each column
pub row-length : (s : Staged) (f : Found) → IsTrue (is_row s.columns (row_at s f.place)) → length (values_at s f) ≡ length s.columns
row-length s f fit = by (row_at s f.place) fit
  where
    by : (o : Option StagedRow) → IsTrue (is_row s.columns o) → length (values_in o) ≡ length s.columns
    by None h = absurd (true≢false (sym h))
    by (Some row) h = fits-length s.columns row.values (and_left (fits_columns s.columns row.values) (list_all is_value row.values) h)

-- ---- the place of a column

pub column_below : (columns : List Column) (name : List ℕ) (c : ℕ) → column_of columns name ≡ Some c → c < length columns
column_below columns name c h = position_below (λ (x : Column). same_bytes x.name name) columns c h

found_at : {X : Type 0} (test : X → Bool) (xs : List X) (x : X) → find test xs ≡ Some x → slice_get xs (position_or_len test xs) ≡ Some x
found_at test [] x h = cc
found_at test (y ∷ xs) x h = by (test y) refl (found_at test xs x)
  where
    by : (b : Bool) → test y ≡ b → (find test xs ≡ Some x → slice_get xs (position_or_len test xs) ≡ Some x) → slice_get (y ∷ xs) (cond (not (test y)) (1 + position_or_len test xs) 0) ≡ Some x
    by true e more = ap (λ b. slice_get (y ∷ xs) (cond (not b) (1 + position_or_len test xs) 0)) e ∙ (sym (ap (λ b. cond b (Some y) (find test xs)) e) ∙ h)
    by false e more =
        let next : 1 + position_or_len test xs ≡ suc (position_or_len test xs) = omega arith in
        ap (λ b. slice_get (y ∷ xs) (cond (not b) (1 + position_or_len test xs) 0)) e ∙ ap (slice_get (y ∷ xs)) next ∙ more (sym (ap (λ b. cond b (Some y) (find test xs)) e) ∙ h)

-- ---- the values of a column

pub stored_values : (n : ℕ) (o : Option StagedRow) → (stored_in n o).values ≡ values_in o
stored_values n None = refl
stored_values n (Some row) = refl

-- a row's value in a column
pub stored_cell : (n : ℕ) (s : Staged) (c : ℕ) (f : Found) → IsTrue (is_row s.columns (row_at s f.place)) → c < length s.columns → slice_get (stored_in n (row_at s f.place)).values c ≡ Some (cell s c f)
stored_cell n s c f fit small = let x = is_cell s c f fit small in ap (λ o. slice_get (stored_in n o).values c) x.there ∙ x.is

cells : (n : ℕ) (s : Staged) (c : ℕ) (found : List Found) → Fit s found → c < length s.columns → filter_map (λ (e : ℕ × Stored). slice_get e.1.values c) (rows_at n s found) ≡ map (cell s c) found
cells n s c [] fit small = refl
cells n s c (f ∷ fs) fit small =
    (λ i. cons_option (stored_cell n s c f (fit_first s f fs fit) small i) (cells n s c fs (fit_rest s f fs fit) small i))

pub values_some : (n : ℕ) (s : Staged) (name : List ℕ) (c : ℕ) (found : List Found) → Fit s found → column_of s.columns name ≡ Some c → column_values s.columns name (rows_at n s found) ≡ map (cell s c) found
values_some n s name c found fit at =
    ap (λ o. filter_map (λ (e : ℕ × Stored). option_and_then (slice_get e.1.values) o) (rows_at n s found)) at ∙ cells n s c found fit (column_below s.columns name c at)

-- ---- the columns that are picked

pub all_values : (n : ℕ) (s : Staged) (found : List Found) → map (λ (e : ℕ × Stored). e.1.values) (rows_at n s found) ≡ map (values_at s) found
all_values n s [] = refl
all_values n s (f ∷ fs) = λ i. stored_values n (row_at s f.place) i ∷ all_values n s fs i

-- what is so of one and of the others
pub all_cons : {X : Type 0} (P : X → Type 0) (x : X) (xs : List X) → P x → All P xs → All P (x ∷ xs)
all_cons P x xs p ps zero d h = p
all_cons P x xs p ps (suc k) d h = let less : k < length xs = omega arith in ps k d less

pub places_below : (columns : List Column) (names : List (List ℕ)) → All (λ place. place < length columns) (filter_map (column_of columns) names)
places_below columns [] = λ k d h. absurd (omega arith)
places_below columns (name ∷ names) = by (column_of columns name) refl (places_below columns names)
  where
    by : (o : Option ℕ) → column_of columns name ≡ o → All (λ place. place < length columns) (filter_map (column_of columns) names) → All (λ place. place < length columns) (cons_option o (filter_map (column_of columns) names))
    by None e rest = rest
    by (Some c) e rest = all_cons (λ place. place < length columns) c (filter_map (column_of columns) names) (column_below columns name c e) rest

picked_cells : (n : ℕ) (s : Staged) (names : List (List ℕ)) (f : Found) → IsTrue (is_row s.columns (row_at s f.place))
    → filter_map (value_in s.columns (stored_in n (row_at s f.place)).values) names ≡ map (λ place. cell s place f) (filter_map (column_of s.columns) names)
picked_cells n s [] f fit = refl
picked_cells n s (name ∷ names) f fit = by (column_of s.columns name) refl (picked_cells n s names f fit)
  where
    by : (o : Option ℕ) → column_of s.columns name ≡ o
        → filter_map (value_in s.columns (stored_in n (row_at s f.place)).values) names ≡ map (λ place. cell s place f) (filter_map (column_of s.columns) names)
        → cons_option (option_and_then (slice_get (stored_in n (row_at s f.place)).values) o) (filter_map (value_in s.columns (stored_in n (row_at s f.place)).values) names) ≡ map (λ place. cell s place f) (cons_option o (filter_map (column_of s.columns) names))
    by None e rest = rest
    by (Some c) e rest = λ i. cons_option (stored_cell n s c f fit (column_below s.columns name c e) i) (rest i)

pub picked_rows : (n : ℕ) (s : Staged) (names : List (List ℕ)) (found : List Found) → Fit s found
    → map (λ (e : ℕ × Stored). picked s.columns (Some names) e.1.values) (rows_at n s found) ≡ map (λ f. map (λ place. cell s place f) (filter_map (column_of s.columns) names)) found
picked_rows n s names [] fit = refl
picked_rows n s names (f ∷ fs) fit = λ i. picked_cells n s names f (fit_first s f fs fit) i ∷ picked_rows n s names fs (fit_rest s f fs fit) i
