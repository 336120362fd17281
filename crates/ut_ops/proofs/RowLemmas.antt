-- Rows that are read column by column.
use Rattle.std.proofs.Common.{ℕ, zero, suc, ◌+◌, ◌<◌, ◌≡◌, List, [], ◌∷◌, ◌++◌, length, map, get_or, All, refl, sym, ap, ◌∙◌, subst, arith}
use Rattle.std.specs.Prelude.{pos}
use Rattle.std.specs.List.{range_with_len}
use Rattle.std.proofs.lemmas.List.{length-map, map-append}
use Rattle.std.proofs.lemmas.List.Elements.{All-cons, All-append, All-from_get_or}
use Rattle.std.proofs.lemmas.List.FromFn.{fill_by_all, length-range_with_len, get_or-map-range_with_len, map-range_with_len_more}
use Rattle.std.proofs.lemmas.Option.{unwrap_or-slice_get}
use Rattle.ut_value.specs.declared.value.Value.{Value}
use Rattle.ut_value.specs.declared.value.Value.TheVariants.{Int}
use Rattle.ut_rows.specs.Columns.{value_in, rows_of}
use Rattle.ut_scan.specs.declared.place.Found.{Found}
use Rattle.ut_staged.specs.Staged.{Staged}
use Rattle.ut_ops.specs.Fit.{Fit, values_at, cell}
use Rattle.ut_ops.specs.Index.{beside_each}
use Rattle.ut_ops.proofs.ColumnLemmas.{fit_first, fit_rest, row-length}

-- the columns at these places, over rows that were found
abbrev pub columns_at : Staged → List ℕ → List Found → List (List Value)
columns_at s places fs = map (λ place. map (cell s place) fs) places

-- the rows of these places
abbrev pub cells_at : Staged → List ℕ → List Found → List (List Value)
cells_at s places fs = map (λ f. map (λ place. cell s place f) places) fs

-- each of them has a value for each row
pub columns-long : (s : Staged) (places : List ℕ) (fs : List Found) (n : ℕ) → length fs ≡ n → All (λ column. length column ≡ n) (columns_at s places fs)
columns-long s [] fs n is = λ k d h. absurd (omega arith)
columns-long s (p ∷ ps) fs n is = All-cons (λ column. length column ≡ n) (map (cell s p) fs) (columns_at s ps fs) (length-map fs (cell s p) ∙ is) (columns-long s ps fs n is)

-- what the columns have in a row
first_row : (s : Staged) (places : List ℕ) (f : Found) (fs : List Found) → map (λ column. value_in column 0) (columns_at s places (f ∷ fs)) ≡ map (λ place. cell s place f) places
first_row s [] f fs = refl
first_row s (p ∷ ps) f fs = λ i. cell s p f ∷ first_row s ps f fs i

next_row : (s : Staged) (places : List ℕ) (f : Found) (fs : List Found) (k : ℕ) → map (λ column. value_in column (suc k)) (columns_at s places (f ∷ fs)) ≡ map (λ column. value_in column k) (columns_at s places fs)
next_row s [] f fs k = refl
next_row s (p ∷ ps) f fs k = λ i. value_in (map (cell s p) fs) k ∷ next_row s ps f fs k i

pub row-across : (s : Staged) (places : List ℕ) (fs : List Found) (k : ℕ) → k < length fs → get_or (cells_at s places fs) k [] ≡ map (λ column. value_in column k) (columns_at s places fs)
row-across s places [] k lt = absurd (omega arith)
row-across s places (f ∷ fs) zero lt = sym (first_row s places f fs)
row-across s places (f ∷ fs) (suc k) lt = row-across s places fs k (omega (arith, lt)) ∙ sym (next_row s places f fs k)

-- rows whose values are those of the columns
rows-are : (n : ℕ) (columns rows : List (List Value)) → length rows ≡ n → ((k : ℕ) → k < n → get_or rows k [] ≡ map (λ column. value_in column k) columns) → rows_of n columns ≡ rows
rows-are n columns rows long each = sym (fill_by_all (λ row. map (λ column. value_in column row) columns) rows n [] long each)

pub rows-by_columns : (s : Staged) (places : List ℕ) (fs : List Found) → rows_of (length fs) (columns_at s places fs) ≡ cells_at s places fs
rows-by_columns s places fs = rows-are (length fs) (columns_at s places fs) (cells_at s places fs) (length-map fs (λ f. map (λ place. cell s place f) places)) (row-across s places fs)

-- ---- all columns

whole_row : (s : Staged) (f : Found) → length (values_at s f) ≡ length s.columns → map (λ place. cell s place f) (range_with_len 0 (length s.columns)) ≡ values_at s f
whole_row s f long = sym (fill_by_all (λ place. cell s place f) (values_at s f) (length s.columns) (Int (pos 0)) long (λ k lt. sym (unwrap_or-slice_get (values_at s f) k (Int (pos 0)))))

pub whole_rows : (s : Staged) (fs : List Found) → Fit s fs → cells_at s (range_with_len 0 (length s.columns)) fs ≡ map (values_at s) fs
whole_rows s [] fit = refl
whole_rows s (f ∷ fs) fit = λ i. whole_row s f (row-length s f (fit_first s f fs fit)) i ∷ whole_rows s fs (fit_rest s f fs fit) i

pub all-rows : (s : Staged) (places : List ℕ) (fs : List Found) (rows : List (List Value)) → Fit s fs → places ≡ range_with_len 0 (length s.columns) → rows ≡ cells_at s places fs → rows ≡ map (values_at s) fs
all-rows s places fs rows fit are is = is ∙ ap (λ ps. cells_at s ps fs) are ∙ whole_rows s fs fit

-- ---- two rows

both : (l r : Staged) (fs gs : List Found) (k : ℕ) → length gs ≡ length fs → k < length fs → get_or (beside_each l fs r gs) k [] ≡ get_or (map (values_at l) fs) k [] ++ get_or (map (values_at r) gs) k []
both l r [] gs k long lt = absurd (omega arith)
both l r (f ∷ fs) [] k long lt = absurd (omega (arith, long))
both l r (f ∷ fs) (g ∷ gs) zero long lt = refl
both l r (f ∷ fs) (g ∷ gs) (suc k) long lt = both l r fs gs k (omega (arith, long)) (omega (arith, lt))

pairs-long : (l r : Staged) (fs gs : List Found) → length gs ≡ length fs → length (beside_each l fs r gs) ≡ length fs
pairs-long l r [] gs long = refl
pairs-long l r (f ∷ fs) [] long = absurd (omega (arith, long))
pairs-long l r (f ∷ fs) (g ∷ gs) long = ap suc (pairs-long l r fs gs (omega (arith, long)))

-- the columns of both, of pairs of rows
abbrev pub both_columns : Staged → List Found → Staged → List Found → List (List Value)
both_columns l fs r gs = columns_at l (range_with_len 0 (length l.columns)) fs ++ columns_at r (range_with_len 0 (length r.columns)) gs

pub both-long : (l r : Staged) (fs gs : List Found) → length gs ≡ length fs → All (λ column. length column ≡ length fs) (both_columns l fs r gs)
both-long l r fs gs long = All-append (λ column. length column ≡ length fs) (columns_at l (range_with_len 0 (length l.columns)) fs) (columns_at r (range_with_len 0 (length r.columns)) gs)
    (columns-long l (range_with_len 0 (length l.columns)) fs (length fs) refl) (columns-long r (range_with_len 0 (length r.columns)) gs (length fs) long)

pub pairs-by_columns : (l r : Staged) (fs gs : List Found) → Fit l fs → Fit r gs → length gs ≡ length fs → rows_of (length fs) (both_columns l fs r gs) ≡ beside_each l fs r gs
pairs-by_columns l r fs gs fit other long = rows-are (length fs) (both_columns l fs r gs) (beside_each l fs r gs) (pairs-long l r fs gs long) each
  where
    lp : List ℕ
    lp = range_with_len 0 (length l.columns)

    rp : List ℕ
    rp = range_with_len 0 (length r.columns)

    one : (s : Staged) (hs : List Found) (k : ℕ) → Fit s hs → k < length hs → get_or (map (values_at s) hs) k [] ≡ map (λ column. value_in column k) (columns_at s (range_with_len 0 (length s.columns)) hs)
    one s hs k fits lt = ap (λ rows. get_or rows k []) (sym (whole_rows s hs fits)) ∙ row-across s (range_with_len 0 (length s.columns)) hs k lt

    each : (k : ℕ) → k < length fs → get_or (beside_each l fs r gs) k [] ≡ map (λ column. value_in column k) (both_columns l fs r gs)
    each k lt =
        both l r fs gs k long lt
        ∙ (λ i. one l fs k fit lt i ++ one r gs k other (omega (arith, lt, long)) i)
        ∙ sym (map-append (λ column. value_in column k) (columns_at l lp fs) (columns_at r rp gs))

same : (xs : List ℕ) → map (λ (k : ℕ). k) xs ≡ xs
same [] = refl
same (x ∷ xs) = λ k. x ∷ same xs k

-- the places of all columns are those of columns
pub places-there : (n : ℕ) → All (λ place. place < n) (range_with_len 0 n)
places-there n = All-from_get_or (λ place. place < n) (range_with_len 0 n) 0 (λ i lt. subst (λ (m : ℕ). m < n) (sym (get_or-range_with_len i (omega (arith, lt, length-range_with_len 0 n)))) (omega (arith, lt, length-range_with_len 0 n)))
  where
    get_or-range_with_len : (i : ℕ) → i < n → get_or (range_with_len 0 n) i 0 ≡ i
    get_or-range_with_len i lt = ap (λ xs. get_or xs i 0) (sym (same (range_with_len 0 n))) ∙ get_or-map-range_with_len (λ (k : ℕ). k) 0 n i i 0 lt (omega arith)

-- one place more
pub places-next : (n : ℕ) → range_with_len 0 (n + 1) ≡ range_with_len 0 n ++ n ∷ []
places-next n = sym (same (range_with_len 0 (n + 1))) ∙ map-range_with_len_more (λ (k : ℕ). k) 0 n n (omega arith) ∙ ap (λ xs. xs ++ n ∷ []) (same (range_with_len 0 n))
