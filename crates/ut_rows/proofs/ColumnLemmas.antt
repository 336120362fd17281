-- Rows that are held by columns.
use Rattle.std.proofs.Common.{◌≡◌, ℕ, pos, ◌<◌, List, [], length, map, get_or, slice_get, Some, All, refl, sym, ap, ◌∙◌, subst, arith, Vec, Global}
use Rattle.std.proofs.lemmas.List.{length-map}
use Rattle.std.proofs.lemmas.List.Elements.{All-get_or}
use Rattle.std.proofs.lemmas.List.FromFn.{length-map-range_with_len, get_or-map-range_with_len}
use Rattle.std.proofs.lemmas.Option.{slice_get-map, slice_get_read, get_or_from_slice_get}
use Rattle.std.specs.Option.{option_map}
use Rattle.ut_value.specs.declared.value.Value.{Value}
use Rattle.ut_value.specs.declared.value.Value.TheVariants.{Int}
use Rattle.ut_rows.specs.Columns.{value_in, rows_of}
use Rattle.ut_rows.specs.Form.{rows_in, columns_in, count_in, IsWhole}
use Rattle.ut_rows.specs.declared.cells.Cells.{Cells}
use Rattle.ut_rows.specs.declared.rows.Form.{Form}
use Rattle.ut_rows.specs.declared.rows.Form.TheVariants as forms

pub rows_by_columns : (form : Form) (n : ℕ) (columns : Vec Cells Global) (now : List (List Value)) → rows_in form ≡ now → form ≡ forms.Columns n columns → now ≡ rows_of n columns.items
rows_by_columns form n columns now view is = sym view ∙ ap rows_in is

-- so many rows are there
pub count_is : (n : ℕ) (columns : List (List Value)) (now : List (List Value)) → now ≡ rows_of n columns → length now ≡ n
count_is n columns now is = ap length is ∙ length-map-range_with_len (λ row. map (λ column. value_in column row) columns) 0 n

-- a row has the values of the columns
pub row_is : (n : ℕ) (columns : List (List Value)) (now : List (List Value)) (i : ℕ) → now ≡ rows_of n columns → i < n → get_or now i [] ≡ map (λ column. value_in column i) columns
row_is n columns now i is below = ap (λ rows. get_or rows i []) is ∙ get_or-map-range_with_len (λ row. map (λ column. value_in column row) columns) 0 n i i [] below (omega arith)

-- and so one for each column
pub width_is : (n : ℕ) (columns : List (List Value)) (now : List (List Value)) (i : ℕ) → now ≡ rows_of n columns → i < n → length (get_or now i []) ≡ length columns
width_is n columns now i is below = ap length (row_is n columns now i is below) ∙ length-map columns (λ column. value_in column i)

-- a row that is there
pub row_below : (n : ℕ) (columns : List (List Value)) (now : List (List Value)) (i : ℕ) → now ≡ rows_of n columns → i < length now → i < n
row_below n columns now i is below = subst (λ (m : ℕ). i < m) (count_is n columns now is) below

-- and its value
pub column_below : (n : ℕ) (columns : List (List Value)) (now : List (List Value)) (i j : ℕ) → now ≡ rows_of n columns → i < length now → j < length (get_or now i []) → j < length columns
column_below n columns now i j is below inside = subst (λ (m : ℕ). j < m) (width_is n columns now i is (row_below n columns now i is below)) inside

-- each column reaches to each row
pub column_reaches : (form : Form) (n : ℕ) (columns : Vec Cells Global) (j : ℕ) (column : List Value) → IsWhole form → form ≡ forms.Columns n columns → j < length columns.items → column ≡ get_or columns.items j column → length column ≡ n
column_reaches form n columns j column whole is below there =
    ap length there ∙ All-get_or (λ column. length column ≡ n) columns.items j column below (subst (λ (it : Form). All (λ column. length column ≡ count_in it) (columns_in it)) is whole.each)

-- a value of a column is one of the row
pub value_is : (n : ℕ) (columns : List (List Value)) (now : List (List Value)) (i j : ℕ) (column : List Value) (v : Value) → now ≡ rows_of n columns → i < n → j < length columns
    → column ≡ get_or columns j column → slice_get column i ≡ Some v → slice_get (get_or now i []) j ≡ Some v
value_is n columns now i j column v is below inside there found =
    ap (λ row. slice_get row j) (row_is n columns now i is below)
    ∙ slice_get-map (λ column. value_in column i) columns j
    ∙ ap (option_map (λ column. value_in column i)) (slice_get_read columns (length columns) j column refl inside there)
    ∙ ap Some (get_or_from_slice_get column i v (Int (pos 0)) found)

-- a value of a row that is a list of its own
pub list_value : (now rows seen : List (List Value)) (row values : List Value) (i j : ℕ) (v : Value) → now ≡ rows → seen ≡ rows → row ≡ get_or seen i row → values ≡ row → v ≡ get_or values j v → i < length now → j < length (get_or now i []) → slice_get (get_or now i []) j ≡ Some v
list_value now rows seen row values i j v is view there own held below inside =
    let found : row ≡ get_or now i row = there ∙ ap (λ them. get_or them i row) (view ∙ sym is) in
    let one : row ≡ get_or now i [] = get_or-any now i row [] below found in
    let fits : j < length values = subst (λ (it : List Value). j < length it) (sym one ∙ sym own) inside in
    ap (λ it. slice_get it j) (sym one ∙ sym own) ∙ slice_get_read values (length values) j v refl fits held
  where
    get_or-any : {X : Type 0} (xs : List X) (i : ℕ) (d e : X) → i < length xs → d ≡ get_or xs i d → d ≡ get_or xs i e
    get_or-any xs i d e h is = get_or_from_some (slice_get_read xs (length xs) i d refl h is)
      where
        get_or_from_some : slice_get xs i ≡ Some d → d ≡ get_or xs i e
        get_or_from_some found = sym (get_or_from_slice_get xs i d e found)

-- the columns by which rows are held
pub columns_are : (form : Form) (n : ℕ) (columns : Vec Cells Global) (now seen : List (List Value)) → rows_in form ≡ now → IsWhole form → form ≡ forms.Columns n columns → seen ≡ columns.items
    → (now ≡ rows_of (length now) seen) × All (λ column. length column ≡ length now) seen
columns_are form n columns now seen view whole is same =
    let held : now ≡ rows_of n columns.items = rows_by_columns form n columns now view is in
    let many : length now ≡ n = count_is n columns.items now held in
    let each : All (λ column. length column ≡ n) columns.items = subst (λ (it : Form). All (λ column. length column ≡ count_in it) (columns_in it)) is whole.each in (
      subst (λ (m : ℕ). now ≡ rows_of m seen) (sym many) (held ∙ ap (λ them. rows_of n them) (sym same)),
      subst (λ (them : List (List Value)). All (λ column. length column ≡ length now) them) (sym same) (subst (λ (m : ℕ). All (λ column. length column ≡ m) columns.items) (sym many) each),
    )
