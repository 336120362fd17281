-- Candidates that one comparison picks, and the test of the others.
use Rattle.std.proofs.Common.{◌≡◌, ℕ, zero, suc, ◌+◌, ◌<◌, Bool, true, false, cond, ◌&&◌, List, [], ◌∷◌, ◌++◌, length, map, filter, get_or, take, drop, All, if◌then◌else◌, ap, sym, ◌∙◌, subst, arith, refl}
use Rattle.std.specs.List.{range_with_len, list_all}
use Rattle.std.specs.Cmp.Lexicographic.{nat_list_eq_equiv}
use Rattle.std.proofs.lemmas.List.{get_or-map, length-map, take-append-drop}
use Rattle.std.proofs.lemmas.List.Folds.{list_all-append}
use Rattle.std.proofs.lemmas.Map.Text.{is_eq-slice_cmp}
use Rattle.std.proofs.Math.Seq.{drop-cons}
use Rattle.ut_key.specs.declared.comparison.Cmp.TheVariants.{Eq}
use Rattle.ut_key.specs.Keys.{meets}
use Rattle.ut_unsorted.specs.FirstSeen.{key_eq, first_seen}
use Rattle.ut_l2.specs.Cells.{cells_of}
use Rattle.ut_l2.specs.Places.{places_from, places_where}
use Rattle.ut_l2.specs.KeyRows.{KeyRow, key_at, cells_at, no_row}
use Rattle.ut_key.specs.declared.comparison.ColumnPred.{ColumnPred}
use Rattle.ut_scan.specs.Finds.{meets_at, passes}

module _ (T U : ℕ → Bool) where
  pub same-filter : (a n : ℕ) → ((i : ℕ) → T i ≡ U i) → filter T (range_with_len a n) ≡ filter U (range_with_len a n)
  same-filter a zero h = refl
  same-filter a (suc n) h =
      ap (λ l. cond (T a) (a ∷ l) l) (same-filter (a + 1) n h)
      ∙ ap (λ b. cond b (a ∷ filter U (range_with_len (a + 1) n)) (filter U (range_with_len (a + 1) n))) (h a)

  -- what the test leaves of the places at which t passes
  picked : {A : Type 0} (t : A → Bool) (d : A) (a : ℕ) (xs : List A) → ((k : ℕ) → k < length xs → T (a + k) ≡ (t (get_or xs k d) && U (a + k)))
      → filter U (places_from t a xs) ≡ filter T (range_with_len a (length xs))
  picked t d a [] h = refl
  picked t d a (x ∷ xs) h = by (picked t d (a + 1) xs later) (t x) first
    where
      zero_more : a + 0 ≡ a
      zero_more = omega arith

      first : T a ≡ (t x && U a)
      first = ap T (sym zero_more) ∙ h 0 (omega arith) ∙ ap (λ n. t x && U n) zero_more

      later : (k : ℕ) → k < length xs → T (a + 1 + k) ≡ (t (get_or xs k d) && U (a + 1 + k))
      later k lt = let e : a + 1 + k ≡ a + suc k = omega arith in ap T e ∙ h (suc k) (omega (arith, lt)) ∙ ap (λ n. t (get_or xs k d) && U n) (sym e)

      by : filter U (places_from t (a + 1) xs) ≡ filter T (range_with_len (a + 1) (length xs)) → (b : Bool) → T a ≡ (b && U a)
          → filter U (if b then a ∷ places_from t (a + 1) xs else places_from t (a + 1) xs) ≡ cond (T a) (a ∷ filter T (range_with_len (a + 1) (length xs))) (filter T (range_with_len (a + 1) (length xs)))
      by rec true at = ap (λ l. cond (U a) (a ∷ l) l) rec ∙ ap (λ b. cond b (a ∷ filter T (range_with_len (a + 1) (length xs))) (filter T (range_with_len (a + 1) (length xs)))) (sym at)
      by rec false at = rec ∙ ap (λ b. cond b (a ∷ filter T (range_with_len (a + 1) (length xs))) (filter T (range_with_len (a + 1) (length xs)))) (sym at)

  -- the same of the cells of a column
  pub picked-cells : (rows : List KeyRow) (column : ℕ) (t : List ℕ → Bool) → ((i : ℕ) → T i ≡ (t (key_at column (get_or rows i no_row)) && U i))
      → filter U (places_where t (cells_at column rows)) ≡ filter T (range_with_len 0 (length rows))
  picked-cells rows column t h =
      picked t [] 0 (cells_at column rows) (λ k lt.
      let e : 0 + k ≡ k = omega arith in
      let lr : k < length rows = omega (arith, lt, length-map rows (key_at column)) in
      ap T e ∙ h k ∙ ap (λ c. t c && U k) (sym (get_or-map (key_at column) rows k no_row [] lr)) ∙ ap (λ n. t (get_or (cells_at column rows) k []) && U n) (sym e))
      ∙ ap (λ n. filter T (range_with_len 0 n)) (length-map rows (key_at column))

-- an equality is met by the same key
pub meets-Eq : (key cell : List ℕ) → meets Eq key cell ≡ key_eq key cell
meets-Eq key cell = is_eq-slice_cmp cell key ∙ nat_list_eq_equiv.symm cell key

-- the comparisons but one, and that one
shuffle : (b m a s : Bool) → ((b && (m && a)) && s) ≡ (m && ((b && a) && s))
shuffle true true a s = refl
shuffle true false a s = refl
shuffle false true a s = refl
shuffle false false a s = refl

pub passes-around : (preds : List ColumnPred) (k : ℕ) (p : ColumnPred) (row : KeyRow) (s : Bool) → k < length preds
    → let q = get_or preds k p in (passes preds row && s) ≡ (meets q.op q.key (key_at q.column row) && ((passes (take k preds) row && passes (drop (suc k) preds) row) && s))
passes-around preds k p row s lt =
    let q = get_or preds k p in
    let t = λ (r : ColumnPred). meets r.op r.key (key_at r.column row) in
    ap (λ l. list_all t l && s) (sym (ap (λ l. take k preds ++ l) (sym (drop-cons preds k p lt)) ∙ take-append-drop k preds))
    ∙ ap (λ b. b && s) (list_all-append t (take k preds) (q ∷ drop (suc k) preds))
    ∙ shuffle (list_all t (take k preds)) (t q) (list_all t (drop (suc k) preds)) s

-- the mark of a row's code
marked : (t : List ℕ → Bool) (cells : List (List ℕ)) (codes : List ℕ) (marks : List Bool) (i : ℕ) → marks ≡ map t (first_seen cells) → cells_of (first_seen cells) codes ≡ cells
    → i < length codes → get_or codes i 0 < length (first_seen cells) → get_or marks (get_or codes i 0) false ≡ t (get_or cells i [])
marked t cells codes marks i is keys lt within =
    ap (λ l. get_or l (get_or codes i 0) false) is
    ∙ get_or-map t (first_seen cells) (get_or codes i 0) [] false within
    ∙ ap t (sym (get_or-map (λ c. get_or (first_seen cells) c []) codes i 0 [] lt) ∙ ap (λ l. get_or l i []) keys)

-- and whether the row meets the comparison
pub mark-tells : (pred : ColumnPred) (rows : List KeyRow) (codes : List ℕ) (marks : List Bool) (i : ℕ) → marks ≡ map (meets pred.op pred.key) (first_seen (cells_at pred.column rows))
    → cells_of (first_seen (cells_at pred.column rows)) codes ≡ cells_at pred.column rows → All (λ c. c < length (first_seen (cells_at pred.column rows))) codes → i < length rows
    → get_or marks (get_or codes i 0) false ≡ meets_at pred rows i
mark-tells pred rows codes marks i is keys within lr =
    let cells = cells_at pred.column rows in
    let n : length codes ≡ length rows = sym (length-map codes (λ k. get_or (first_seen (cells_at pred.column rows)) k [])) ∙ ap length keys ∙ length-map rows (key_at pred.column) in
    let lc : i < length codes = omega (arith, n, lr) in
    marked (meets pred.op pred.key) cells codes marks i is keys lc (within i 0 lc) ∙ ap (meets pred.op pred.key) (get_or-map (key_at pred.column) rows i no_row [] lr)

-- a place of a list is below its length
pub places-within : {A : Type 0} (t : A → Bool) (i : ℕ) (xs : List A) (k d : ℕ) → k < length (places_from t i xs) → get_or (places_from t i xs) k d < i + length xs
places-within t i [] k d l = absurd (omega (arith, l))
places-within t i (x ∷ xs) k d l = by (places-within t (i + 1) xs) (t x) k l
  where
    by : ((k d : ℕ) → k < length (places_from t (i + 1) xs) → get_or (places_from t (i + 1) xs) k d < (i + 1) + length xs) → (b : Bool) → (k : ℕ) → k < length (if b then i ∷ places_from t (i + 1) xs else places_from t (i + 1) xs) → get_or (if b then i ∷ places_from t (i + 1) xs else places_from t (i + 1) xs) k d < i + suc (length xs)
    by rec true zero h = omega arith
    by rec true (suc k) h = omega (arith, rec k d (omega (arith, h)))
    by rec false k h = omega (arith, rec k d h)

-- ---- an equality, by the places of its key

pub equal-within : (rows : List KeyRow) (column : ℕ) (key : List ℕ) (places : List ℕ) → places ≡ places_where (key_eq key) (cells_at column rows) → (k d : ℕ) → k < length places → get_or places k d < length rows
equal-within rows column key places is =
    subst (λ l. (k d : ℕ) → k < length l → get_or l k d < length rows) (sym is)
    (λ k d l. omega (arith, places-within (key_eq key) 0 (cells_at column rows) k d l, length-map rows (key_at column)))

pub equal-picked : (rows : List KeyRow) (pred : ColumnPred) (key : List ℕ) (places : List ℕ) (rest : ℕ → Bool) → pred.op ≡ Eq → key ≡ pred.key → places ≡ places_where (key_eq key) (cells_at pred.column rows)
    → filter rest places ≡ filter (λ i. meets_at pred rows i && rest i) (range_with_len 0 (length rows))
equal-picked rows pred key places rest equality key_is is =
    let cell = λ (i : ℕ). key_at pred.column (get_or rows i no_row) in
    let tells = λ (i : ℕ).
    ap (λ op. meets op pred.key (cell i) && rest i) equality ∙ ap (λ b. b && rest i) (meets-Eq pred.key (cell i)) ∙ ap (λ k. key_eq k (cell i) && rest i) (sym key_is) in
    ap (filter rest) is ∙ picked-cells (λ i. meets_at pred rows i && rest i) rest rows pred.column (key_eq key) tells
