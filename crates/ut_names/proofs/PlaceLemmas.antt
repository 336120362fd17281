-- Tables and columns that are there: their places, and what stands there.
use Rattle.std.proofs.Common.{◌≡◌, ℕ, zero, suc, ◌+◌, ◌<◌, Bool, true, false, ◌&&◌, ◌||◌, cond, not, List, [], ◌∷◌, ◌++◌, length, take, get_or, Option, None, Some, nat_lt, refl, sym, ◌∙◌, ap, arith, true≢false, lt-ltb}
use Rattle.std.specs.Prelude.{slice_get}
use Rattle.std.specs.Option.{option_map, option_and_then, unwrap_or}
use Rattle.std.specs.List.{list_all, list_any, position, position_or_len, filter_map, cons_option}
use Rattle.std.proofs.lemmas.List.{take_more}
use Rattle.std.proofs.lemmas.List.Folds.{find_at, list_all-append}
use Rattle.std.proofs.lemmas.List.Elements.{filter_map-append}
use Rattle.ut_value.specs.declared.value.Column.{Column}
use Rattle.ut_value.specs.declared.value.Kind.{Kind}
use Rattle.ut_value.specs.declared.value.Kind.TheVariants as kinds
use Rattle.ut_value.specs.Spelling.{has_column}
use Rattle.ut_value.specs.Text.{same_bytes}
use Rattle.ut_plain.specs.declared.table.Table.{Table}
use Rattle.ut_plain.specs.Tables.{place_of, column_of, columns_at, columns_of, columns_in}
use Rattle.ut_plain.specs.Kinds.{kind_in, is_int}
use Rattle.ut_plain.proofs.ListLemmas.{position_below}

-- the place that is found is that of the first that passes
place_is : {X : Type 0} (test : X → Bool) (xs : List X) (i : ℕ) → position test xs ≡ Some i → position_or_len test xs ≡ i
place_is test xs i h = by (nat_lt (position_or_len test xs) (length xs)) h
  where
    by : (b : Bool) → cond b (Some (position_or_len test xs)) None ≡ Some i → position_or_len test xs ≡ i
    by true is = cc
    by false is = cc

-- where one is found, one passes
any_found : {X : Type 0} (test : X → Bool) (xs : List X) → position_or_len test xs < length xs → list_any test xs ≡ true
any_found test [] below = absurd (omega arith)
any_found test (x ∷ xs) below = by (test x) (any_found test xs) below
  where
    by : (b : Bool) → (position_or_len test xs < length xs → list_any test xs ≡ true) → cond (not b) (1 + position_or_len test xs) 0 < suc (length xs) → (b || list_any test xs) ≡ true
    by true more below = refl
    by false more below = more (omega (arith, below))

-- where one passes, one is found
found_within : {X : Type 0} (test : X → Bool) (xs : List X) → list_any test xs ≡ true → position_or_len test xs < length xs
found_within test [] h = absurd (true≢false (sym h))
found_within test (x ∷ xs) h = by (test x) (found_within test xs) h
  where
    by : (b : Bool) → (list_any test xs ≡ true → position_or_len test xs < length xs) → (b || list_any test xs) ≡ true → cond (not b) (1 + position_or_len test xs) 0 < suc (length xs)
    by true more h = omega arith
    by false more h = let below : position_or_len test xs < length xs = more h in omega arith

-- what stands at a place that is there
some_there : {X Y : Type 0} (f : X → Y) (d : Y) (xs : List X) (i : ℕ) → i < length xs → option_map f (slice_get xs i) ≡ Some (unwrap_or (option_map f (slice_get xs i)) d)
some_there f d [] i below = absurd (omega arith)
some_there f d (x ∷ xs) zero below = refl
some_there f d (x ∷ xs) (suc i) below = some_there f d xs i (omega arith)

-- a table that has a place has columns
pub table_there : (tables : List Table) (name : List ℕ) (place : ℕ) → place_of tables name ≡ Some place → columns_of tables name ≡ Some (columns_in tables name)
table_there tables name place is =
    let at : columns_of tables name ≡ columns_at tables place = ap (option_and_then (columns_at tables)) is in
    let below : place < length tables = position_below (λ (t : Table). same_bytes t.name name) tables place is in
    at ∙ some_there (λ (t : Table). t.columns) [] tables place below ∙ ap (λ o. Some (unwrap_or o [])) (sym at)

-- the place of a column is one of its table's
pub column_below : (columns : List Column) (name : List ℕ) (place : ℕ) → column_of columns name ≡ Some place → place < length columns
column_below columns name place is = position_below (λ (c : Column). same_bytes c.name name) columns place is

-- a column that is there has a place, or 0 stands for it
pub found_below : (columns : List Column) (name : List ℕ) → has_column columns name ≡ true → unwrap_or (column_of columns name) 0 < length columns
found_below columns name known =
    let test : Column → Bool = λ c. same_bytes c.name name in
    let below : position_or_len test columns < length columns = found_within test columns known in by (nat_lt (position_or_len test columns) (length columns)) below
  where
    by : (b : Bool) → position_or_len (λ (c : Column). same_bytes c.name name) columns < length columns → unwrap_or (cond b (Some (position_or_len (λ (c : Column). same_bytes c.name name) columns)) None) 0 < length columns
    by true below = below
    by false below = omega arith

-- a column that has a place is there
pub column_there : (columns : List Column) (name : List ℕ) (place : ℕ) → column_of columns name ≡ Some place → has_column columns name ≡ true
column_there columns name place is =
    let at = place_is (λ (c : Column). same_bytes c.name name) columns place is in
    let below = column_below columns name place is in
    any_found (λ (c : Column). same_bytes c.name name) columns (omega (arith, at, below))

-- and one that has none isn't
pub column_missing : (columns : List Column) (name : List ℕ) → column_of columns name ≡ None → has_column columns name ≡ false
column_missing columns name none = by (has_column columns name) refl
  where
    test : Column → Bool
    test = λ c. same_bytes c.name name

    by : (b : Bool) → has_column columns name ≡ b → has_column columns name ≡ false
    by false is = is
    by true is =
        let below : position_or_len test columns < length columns = found_within test columns is in
        let some : column_of columns name ≡ Some (position_or_len test columns) = ap (λ b. cond b (Some (position_or_len test columns)) None) (lt-ltb (position_or_len test columns) (length columns) below) in
        let wrong : None ≡ Some (position_or_len test columns) = sym none ∙ some in absurd cc

-- the kind at the place of a column is the column's
pub column_kind : (columns : List Column) (name : List ℕ) (place : ℕ) → column_of columns name ≡ Some place → option_map (λ (c : Column). c.kind) (slice_get columns place) ≡ kind_in columns name
column_kind columns name place is =
    ap (λ i. option_map (λ (c : Column). c.kind) (slice_get columns i)) (sym (place_is (λ (c : Column). same_bytes c.name name) columns place is))
    ∙ ap (option_map (λ (c : Column). c.kind)) (sym (find_at (λ (c : Column). same_bytes c.name name) columns))

int_is : (o : Option Kind) → is_int o ≡ true → o ≡ Some kinds.Int
int_is None is = cc
int_is (Some kinds.Int) is = refl
int_is (Some kinds.Text) is = cc

-- a column that is summed has numbers
pub number_kind : (columns : List Column) (name : List ℕ) (place : ℕ) → column_of columns name ≡ Some place → is_int (kind_in columns name) ≡ true → option_map (λ (c : Column). c.kind) (slice_get columns place) ≡ Some kinds.Int
number_kind columns name place is int = column_kind columns name place is ∙ int_is (kind_in columns name) int

-- the places of the names so far, and of one more
pub places_more : (columns : List Column) (names : List (List ℕ)) (i : ℕ) (name item : List ℕ) (place : ℕ) (list more : List ℕ) → i < length names → item ≡ get_or names i item → name ≡ item → column_of columns name ≡ Some place → has_column columns name ≡ true
    → (list ≡ filter_map (column_of columns) (take i names)) × (list_all (has_column columns) (take i names) ≡ true) → more ≡ list ++ place ∷ []
    → (more ≡ filter_map (column_of columns) (take (i + 1) names)) × (list_all (has_column columns) (take (i + 1) names) ≡ true)
places_more columns names i name item place list more below item_is is at known so pushed =
    let step : take (i + 1) names ≡ take i names ++ name ∷ [] = take_more names i item below ∙ ap (λ x. take i names ++ x ∷ []) (sym item_is ∙ sym is) in (
      pushed ∙ ap (λ them. them ++ place ∷ []) so.0
          ∙ sym (ap (filter_map (column_of columns)) step ∙ filter_map-append (column_of columns) (take i names) (name ∷ []) ∙ ap (λ o. filter_map (column_of columns) (take i names) ++ cons_option o []) at),
      ap (list_all (has_column columns)) step ∙ list_all-append (has_column columns) (take i names) (name ∷ []) ∙ (λ k. so.1 k && (known k && true)),
    )
