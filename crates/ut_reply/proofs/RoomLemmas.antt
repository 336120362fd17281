-- Sums: what a loop has gone through, and rows by their columns.
use Rattle.std.proofs.Common.{ℕ, suc, pos, ◌≡◌, ◌+◌, ◌<◌, ◌≤◌, List, [], ◌∷◌, length, map, drop, get_or, All, refl, sym, ap, ◌∙◌, add-zero, arith}
use Rattle.std.proofs.lemmas.List.{drop_all, ext_get_or, get_or-map}
use Rattle.std.proofs.lemmas.List.FromFn.{length-range_with_len, length-map-range_with_len, get_or-map-range_with_len}
use Rattle.std.proofs.lemmas.List.Sums.{sum_by-cons}
use Rattle.std.specs.List.{range_with_len}
use Rattle.std.specs.Prelude.{sum_by}
use Rattle.ut_value.specs.declared.value.Value.{Value}
use Rattle.ut_value.specs.declared.value.Value.TheVariants.{Int}
use Rattle.ut_rows.specs.Columns.{value_in, values_at, rows_of}
use Rattle.ut_reply.specs.Texts.{value_room, tuple_room}

-- behind the last item the sum is that of all
pub sum_whole : {A : Type 0} (f : A → ℕ) (xs : List A) (i n : ℕ) → length xs ≤ i → n + sum_by f (drop i xs) ≡ sum_by f xs → n ≡ sum_by f xs
sum_whole f xs i n h e = let none : sum_by f (drop i xs) ≡ 0 = ap (λ ys. sum_by f ys) (drop_all i xs h) in omega (arith, none, e)

-- a sum over what is made of a list
pub sum_by-map : {A B : Type 0} (g : B → ℕ) (f : A → B) (xs : List A) → sum_by g (map f xs) ≡ sum_by (λ x. g (f x)) xs
sum_by-map g f [] = refl
sum_by-map g f (x ∷ xs) = sum_by-cons g (f x) (map f xs) ∙ ap (λ n. g (f x) + n) (sum_by-map g f xs) ∙ sym (sum_by-cons (λ y. g (f y)) x xs)

-- a sum of sums
sum_by-both : {A : Type 0} (h f g : A → ℕ) (xs : List A) → ((x : A) → h x ≡ f x + g x) → sum_by h xs ≡ sum_by f xs + sum_by g xs
sum_by-both h f g [] each = refl
sum_by-both h f g (x ∷ xs) each =
    let one : h x ≡ f x + g x = each x in
    let rest : sum_by h xs ≡ sum_by f xs + sum_by g xs = sum_by-both h f g xs each in
    omega (arith, sum_by-cons h x xs, sum_by-cons f x xs, sum_by-cons g x xs, one, rest)

-- one for each
sum_by-ones : {A : Type 0} (xs : List A) → sum_by (λ x. 1) xs ≡ length xs
sum_by-ones [] = refl
sum_by-ones (x ∷ xs) = let rest : sum_by (λ y. 1) xs ≡ length xs = sum_by-ones xs in omega (arith, sum_by-cons (λ y. 1) x xs, rest)

-- a column that reaches to so many rows is its values in them
column_is : (n : ℕ) (column : List Value) → length column ≡ n → map (value_in column) (range_with_len 0 n) ≡ column
column_is n column long =
    let many : length (map (value_in column) (range_with_len 0 n)) ≡ n = length-map-range_with_len (value_in column) 0 n in
    ext_get_or (Int (pos 0)) (map (value_in column) (range_with_len 0 n)) column (many ∙ sym long)
    (λ i below. get_or-map-range_with_len (value_in column) 0 n i i (Int (pos 0)) (omega (arith, many, below)) (omega arith))

-- the values of the columns in a row
abbrev pub values_in : ℕ → List (List Value) → List Value
values_in row columns = map (λ column. value_in column row) columns

-- what the rows of some columns take
pub rows_room : (n : ℕ) (columns : List (List Value)) → All (λ column. length column ≡ n) columns → sum_by (λ row. tuple_room (values_in row columns) + 1) (range_with_len 0 n) ≡ n + sum_by tuple_room columns
rows_room n [] each = sum_by-ones (range_with_len 0 n) ∙ length-range_with_len 0 n ∙ sym (add-zero n)
rows_room n (column ∷ columns) each =
    let rows = range_with_len 0 n in
    let first : sum_by (λ row. value_room (value_in column row) + 1) rows ≡ tuple_room column =
    sym (sum_by-map (λ v. value_room v + 1) (value_in column) rows) ∙ ap tuple_room (column_is n column (each 0 column (omega arith))) in
    let rest : sum_by (λ row. tuple_room (values_in row columns) + 1) rows ≡ n + sum_by tuple_room columns = rows_room n columns (λ k d below. each (suc k) d (omega arith)) in
    let both : sum_by (λ row. tuple_room (values_in row (column ∷ columns)) + 1) rows ≡ sum_by (λ row. value_room (value_in column row) + 1) rows + sum_by (λ row. tuple_room (values_in row columns) + 1) rows =
    sum_by-both (λ row. tuple_room (values_in row (column ∷ columns)) + 1) (λ row. value_room (value_in column row) + 1) (λ row. tuple_room (values_in row columns) + 1) rows
    (λ row. let it : tuple_room (values_in row (column ∷ columns)) ≡ value_room (value_in column row) + 1 + tuple_room (values_in row columns) = sum_by-cons (λ v. value_room v + 1) (value_in column row) (values_in row columns) in omega (arith, it)) in
    omega (arith, first, rest, both, sum_by-cons tuple_room column columns)

-- the same of the rows themselves
pub columns_take : (rows columns : List (List Value)) → rows ≡ rows_of (length rows) columns → All (λ column. length column ≡ length rows) columns → length rows + sum_by tuple_room columns ≡ sum_by (λ t. tuple_room t + 1) rows
columns_take rows columns are each =
    sym (rows_room (length rows) columns each) ∙ sym (sum_by-map (λ t. tuple_room t + 1) (λ row. values_in row columns) (range_with_len 0 (length rows))) ∙ ap (λ them. sum_by (λ t. tuple_room t + 1) them) (sym are)

-- a sum of the same
sum_by-same : {A : Type 0} (f g : A → ℕ) (xs : List A) → All (λ x. f x ≡ g x) xs → sum_by f xs ≡ sum_by g xs
sum_by-same f g [] each = refl
sum_by-same f g (x ∷ xs) each =
    let one : f x ≡ g x = each 0 x (omega arith) in
    let rest : sum_by f xs ≡ sum_by g xs = sum_by-same f g xs (λ k d below. each (suc k) d (omega arith)) in
    omega (arith, sum_by-cons f x xs, sum_by-cons g x xs, one, rest)

-- what a column takes, by the rooms of its values
pub shared_take : (values : List Value) (places rooms : List ℕ) → rooms ≡ map (λ v. value_room v + 1) values → All (λ place. place < length values) places
    → sum_by (λ place. get_or rooms place 0) places ≡ tuple_room (values_at values places)
shared_take values places rooms are within =
    ap (λ them. sum_by (λ place. get_or them place 0) places) are
    ∙ sum_by-same (λ place. get_or (map (λ v. value_room v + 1) values) place 0) (λ place. value_room (value_in values place) + 1) places
    (λ k d below. get_or-map (λ v. value_room v + 1) values (get_or places k d) (Int (pos 0)) 0 (within k d below))
    ∙ sym (sum_by-map (λ v. value_room v + 1) (value_in values) places)
