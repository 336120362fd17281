-- Columns that show rows.
use Rattle.std.proofs.Common.{ℕ, suc, ◌≡◌, ◌+◌, ◌-◌, ◌<◌, ◌++◌, ◌∷◌, [], List, length, map, get_or, take, drop, All, refl, sym, ap, subst, ◌∙◌, arith}
use Rattle.std.proofs.lemmas.List.{drop_more, take_rest}
use Rattle.std.proofs.lemmas.List.Concat.{flat_map-cons}
use Rattle.std.proofs.lemmas.List.Folds.{flat_map-map}
use Rattle.std.proofs.lemmas.List.Sums.{sum_by-cons}
use Rattle.std.proofs.lemmas.List.Elements.{All-map, All-cons}
use Rattle.std.proofs.lemmas.List.FromFn.{get_or-map-range_with_len}
use Rattle.ut_value.specs.declared.value.Value.{Value}
use Rattle.ut_rows.specs.Columns.{value_in, rows_of}
use Rattle.ut_reply.specs.Columns.{led, led_columns, cell_text, cell_room, row_text, row_room, Show}
use Rattle.ut_reply.proofs.RoomLemmas.{sum_by-map, values_in}
use Rattle.ut_reply.specs.Texts.{value_text, tuple_text, value_room, tuple_room}

-- a row is that of its columns
row_is : (rows columns : List (List Value)) (row : ℕ) → rows ≡ rows_of (length rows) columns → row < length rows → get_or rows row [] ≡ values_in row columns
row_is rows columns row are below = ap (λ them. get_or them row []) are ∙ get_or-map-range_with_len (λ i. values_in i columns) 0 (length rows) row row [] below (omega arith)

-- the text of a row by its columns
text_by : (first : List Value) (more : List (List Value)) (row : ℕ) → row_text (led_columns (first ∷ more)) row ≡ 10 ∷ tuple_text (values_in row (first ∷ more))
text_by first more row =
    flat_map-cons (cell_text row) (led 10 first) (map (led 32) more)
    ∙ ap (λ rest. (10 ∷ value_text (value_in first row)) ++ rest) (flat_map-map (cell_text row) (led 32) more ∙ sym (flat_map-map (λ v. 32 ∷ value_text v) (λ column. value_in column row) more))

-- the room of a row by its columns
room_by : (columns : List (List Value)) (row : ℕ) → row_room (led_columns columns) row ≡ tuple_room (values_in row columns)
room_by [] row = refl
room_by (first ∷ more) row =
    sum_by-cons (cell_room row) (led 10 first) (map (led 32) more)
    ∙ ap (λ n. value_room (value_in first row) + 1 + n) (sum_by-map (cell_room row) (led 32) more ∙ sym (sum_by-map (λ v. value_room v + 1) (λ column. value_in column row) more))
    ∙ sym (sum_by-cons (λ v. value_room v + 1) (value_in first row) (values_in row more))

-- columns that are led show their rows
pub led_show : (first : List Value) (more rows : List (List Value)) → rows ≡ rows_of (length rows) (first ∷ more) → All (λ column. length column ≡ length rows) (first ∷ more) → Show (led_columns (first ∷ more)) rows
led_show first more rows are each = record {
  each = All-cons (λ c. length c.values ≡ length rows) (led 10 first) (map (led 32) more) (each 0 first (omega arith))
      (All-map (λ c. length c.values ≡ length rows) (led 32) more (λ k d below. each (suc k) d (omega arith)));
  text = λ row below. text_by first more row ∙ ap (λ values. 10 ∷ tuple_text values) (sym (row_is rows (first ∷ more) row are below));
  room = λ row below. room_by (first ∷ more) row ∙ ap tuple_room (sym (row_is rows (first ∷ more) row are below));
}

-- the same of columns that were read as the first and the rest
pub read_show : (columns rows : List (List Value)) (first : List Value) → first ≡ get_or columns 0 first → 0 < length columns → rows ≡ rows_of (length rows) columns → All (λ column. length column ≡ length rows) columns
    → Show (led_columns (first ∷ take (length columns - 1) (drop 1 columns))) rows
read_show columns rows first read some are each =
    let more = take (length columns - 1) (drop 1 columns) in
    let whole : columns ≡ first ∷ more = drop_more columns 0 first some ∙ ap (λ it. it ∷ drop 1 columns) (sym read) ∙ ap (λ rest. first ∷ rest) (sym (take_rest columns 1)) in led_show first more rows (subst (λ (them : List (List Value)). rows ≡ rows_of (length rows) them) whole are) (subst (λ (them : List (List Value)). All (λ column. length column ≡ length rows) them) whole each)
