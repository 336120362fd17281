-- Rows of columns.
use Rattle.std.proofs.Common.{◌≡◌, ℕ, zero, suc, ◌+◌, ◌-◌, ◌<◌, ◌≤◌, ◌^◌, Bool, true, false, List, [], ◌∷◌, ◌++◌, length, map, take, get_or, set, All, ltb, ap, sym, ◌∙◌, arith, refl}
use Rattle.std.proofs.lemmas.Bool.{ltb-true, ltb-false}
use Rattle.std.proofs.lemmas.List.{ext_get_or, length-map, length-append, get_or-map, get_or_append_left, get_or-append-add, set-get_or, set-set}
use Rattle.std.proofs.Math.Seq.{take-append_seam}
use Rattle.std.proofs.lemmas.List.FromFn.{length-map-range_with_len, get_or-map-range_with_len}
use Rattle.ut_l2.specs.KeyRows.{KeyRow, keyed}
use Rattle.ut_value.specs.KeyBytes.{key_of}
use Rattle.ut_value.specs.declared.value.Row.{Row}
use Rattle.ut_l2.specs.KeyRows.{key_at, cells_at, cell, no_row}
use Rattle.ut_l2.specs.Delta.{row_at, rows_of, IsDelta}

pub get_or-any : {A : Type 0} (xs : List A) (i : ℕ) (d e : A) → i < length xs → get_or xs i d ≡ get_or xs i e
get_or-any [] i d e h = absurd (omega (arith, h))
get_or-any (x ∷ xs) zero d e h = refl
get_or-any (x ∷ xs) (suc i) d e h = get_or-any xs i d e (omega (arith, h))

pub map-map : {A B C : Type 0} (f : B → C) (g : A → B) (xs : List A) → map f (map g xs) ≡ map (λ x. f (g x)) xs
map-map f g [] = refl
map-map f g (x ∷ xs) = ap (λ l. f (g x) ∷ l) (map-map f g xs)

module _ (ids : List ℕ) (cols : List (List (List ℕ))) where
  pub rows-length : length (rows_of ids cols) ≡ length ids
  rows-length = length-map-range_with_len (row_at ids cols) 0 (length ids)

  pub row-get : (i : ℕ) → i < length ids → get_or (rows_of ids cols) i no_row ≡ row_at ids cols i
  row-get i lt = get_or-map-range_with_len (row_at ids cols) 0 (length ids) i i no_row lt (omega arith)

  pub rows-wide : All (λ row. length row.keys ≡ length cols) (rows_of ids cols)
  rows-wide i d lt =
      let li : i < length ids = omega (arith, lt, rows-length) in
      ap (λ (r : KeyRow). length r.keys) (get_or-any (rows_of ids cols) i d no_row lt ∙ row-get i li) ∙ length-map cols (λ c. get_or c i [])

  pub cells-column : IsDelta ids cols → (j : ℕ) → j < length cols → get_or cols j [] ≡ cells_at j (rows_of ids cols)
  cells-column is j lt =
      let n = is.equal j lt in
      let m = length-map (rows_of ids cols) (key_at j) in
      let r = rows-length in
      ext_get_or [] (get_or cols j []) (cells_at j (rows_of ids cols)) (omega arith) (λ i l.
      let li : i < length ids = omega (arith, l, n) in
      let lr : i < length (rows_of ids cols) = omega (arith, li, r) in
      sym (get_or-map (key_at j) (rows_of ids cols) i no_row [] lr ∙ ap (key_at j) (row-get i li) ∙ get_or-map (λ c. get_or c i []) cols j [] [] lt))

row-same : {a b : ℕ} {x y : List (List ℕ)} → a ≡ b → x ≡ y → (let r : KeyRow = record { id = a; keys = x } in r) ≡ record { id = b; keys = y }
row-same p q = λ k. record { id = p k; keys = q k }

module _ (ids : List ℕ) (cols news : List (List (List ℕ))) (is : IsDelta ids cols) (rows : List KeyRow) (wide : (i : ℕ) → i < length rows → length (get_or rows i no_row).keys ≡ length cols)
    (same : length news ≡ length cols) (more : (j : ℕ) → j < length cols → get_or news j [] ≡ get_or cols j [] ++ cells_at j rows) where
  early : (i : ℕ) → i < length ids → row_at (ids ++ map (λ r. r.id) rows) news i ≡ row_at ids cols i
  early i lt = row-same (get_or_append_left ids (map (λ r. r.id) rows) 0 i lt)
      (ext_get_or [] (map (λ c. get_or c i []) news) (map (λ c. get_or c i []) cols) (length-map news (λ c. get_or c i []) ∙ same ∙ sym (length-map cols (λ c. get_or c i []))) (λ j l.
      let lj : j < length cols = omega (arith, l, length-map news (λ c. get_or c i []), same) in
      let ln : j < length news = omega (arith, lj, same) in
      let lc : i < length (get_or cols j []) = omega (arith, lt, is.equal j lj) in
      get_or-map (λ c. get_or c i []) news j [] [] ln ∙ ap (λ c. get_or c i []) (more j lj) ∙ get_or_append_left (get_or cols j []) (cells_at j rows) [] i lc ∙ sym (get_or-map (λ c. get_or c i []) cols j [] [] lj)))

  late : (k : ℕ) → k < length rows → row_at (ids ++ map (λ r. r.id) rows) news (length ids + k) ≡ get_or rows k no_row
  late k lt = row-same (get_or-append-add ids (map (λ r. r.id) rows) k 0 ∙ get_or-map (λ (r : KeyRow). r.id) rows k no_row 0 lt)
      (ext_get_or [] (map (λ c. get_or c (length ids + k) []) news) (get_or rows k no_row).keys (length-map news (λ c. get_or c (length ids + k) []) ∙ same ∙ sym (wide k lt)) (λ j l.
      let lj : j < length cols = omega (arith, l, length-map news (λ c. get_or c (length ids + k) []), same) in
      let ln : j < length news = omega (arith, lj, same) in
      get_or-map (λ c. get_or c (length ids + k) []) news j [] [] ln ∙ ap (λ c. get_or c (length ids + k) []) (more j lj)
      ∙ ap (λ n. get_or (get_or cols j [] ++ cells_at j rows) (n + k) []) (sym (is.equal j lj)) ∙ get_or-append-add (get_or cols j []) (cells_at j rows) k [] ∙ get_or-map (key_at j) rows k no_row [] lt))

  pub appended-rows : rows_of (ids ++ map (λ r. r.id) rows) news ≡ rows_of ids cols ++ rows
  appended-rows =
      ext_get_or no_row (rows_of (ids ++ map (λ r. r.id) rows) news) (rows_of ids cols ++ rows) lengths (λ i l. by i (omega (arith, l, rows-length (ids ++ map (λ r. r.id) rows) news, length-append ids (map (λ r. r.id) rows), length-map rows (λ (r : KeyRow). r.id))) (ltb i (length ids)) refl)
    where
      lengths : length (rows_of (ids ++ map (λ r. r.id) rows) news) ≡ length (rows_of ids cols ++ rows)
      lengths = omega (arith, rows-length (ids ++ map (λ r. r.id) rows) news, rows-length ids cols, length-append ids (map (λ r. r.id) rows), length-map rows (λ (r : KeyRow). r.id), length-append (rows_of ids cols) rows)

      by : (i : ℕ) → i < length ids + length rows → (b : Bool) → ltb i (length ids) ≡ b → get_or (rows_of (ids ++ map (λ r. r.id) rows) news) i no_row ≡ get_or (rows_of ids cols ++ rows) i no_row
      by i l true e =
          let lt : i < length ids = ltb-true i (length ids) e in
          let la : i < length (ids ++ map (λ r. r.id) rows) = omega (arith, lt, length-append ids (map (λ r. r.id) rows)) in
          let lr : i < length (rows_of ids cols) = omega (arith, lt, rows-length ids cols) in
          row-get (ids ++ map (λ r. r.id) rows) news i la ∙ early i lt ∙ sym (row-get ids cols i lt) ∙ sym (get_or_append_left (rows_of ids cols) rows no_row i lr)
      by i l false e =
          let ge : length ids ≤ i = ltb-false i (length ids) e in
          let k : ℕ = i - length ids in
          let at : i ≡ length ids + (i - length ids) = omega arith in
          let lk : i - length ids < length rows = omega arith in
          let la : i < length (ids ++ map (λ r. r.id) rows) = omega (arith, l, length-append ids (map (λ r. r.id) rows), length-map rows (λ (r : KeyRow). r.id)) in
          row-get (ids ++ map (λ r. r.id) rows) news i la ∙ ap (row_at (ids ++ map (λ r. r.id) rows) news) at ∙ late (i - length ids) lk
          ∙ sym (ap (λ n. get_or (rows_of ids cols ++ rows) n no_row) (at ∙ ap (λ n. n + (i - length ids)) (sym (rows-length ids cols))) ∙ get_or-append-add (rows_of ids cols) rows (i - length ids) no_row)

module _ (ids : List ℕ) (cols news : List (List (List ℕ))) (is : IsDelta ids cols) (rows : List Row) (wide : All (λ r. length r.values ≡ length cols) rows)
    (same : length news ≡ length cols) (more : (j : ℕ) → 0 ≤ j → j < length cols → get_or news j [] ≡ get_or cols j [] ++ map (cell j) rows) where
  pub final-rows : rows_of (ids ++ map (λ r. r.id) rows) news ≡ rows_of ids cols ++ map keyed rows
  final-rows =
      ap (λ l. rows_of (ids ++ l) news) (sym (map-map (λ (r : KeyRow). r.id) keyed rows))
      ∙ appended-rows ids cols news is (map keyed rows) wide_keys same (λ j lt. more j (omega arith) lt ∙ ap (λ l. get_or cols j [] ++ l) (sym (map-map (key_at j) keyed rows)))
    where
      wide_from : (rs : List Row) → All (λ r. length r.values ≡ length cols) rs → (i : ℕ) → i < length (map keyed rs) → length (get_or (map keyed rs) i no_row).keys ≡ length cols
      wide_from [] all i l = absurd (omega (arith, l))
      wide_from (r ∷ rs) all zero l = length-map r.values key_of ∙ all 0 r (omega arith)
      wide_from (r ∷ rs) all (suc i) l = wide_from rs (λ k d lt. all (suc k) d (omega (arith, lt))) i (omega (arith, l))

      wide_keys : (i : ℕ) → i < length (map keyed rows) → length (get_or (map keyed rows) i no_row).keys ≡ length cols
      wide_keys = wide_from rows wide

  pub final-is : length ids + length rows ≤ 2 ^ 31 → IsDelta (ids ++ map (λ r. r.id) rows) news
  final-is count = record {
    equal = λ j l.
        let lt : j < length cols = omega (arith, l, same) in
        let n = ap length (more j (omega arith) lt) in
        omega (arith, n, length-append (get_or cols j []) (map (cell j) rows), length-map rows (cell j), is.equal j lt, length-append ids (map (λ (r : Row). r.id) rows), length-map rows (λ (r : Row). r.id));
    count = omega (arith, count, length-append ids (map (λ (r : Row). r.id) rows), length-map rows (λ (r : Row). r.id));
  }

-- a column that was cut back is as it was
pub set-back : (cols : List (List (List ℕ))) (i : ℕ) (new more : List (List ℕ)) (old : List (List ℕ)) → old ≡ get_or cols i old → new ≡ old ++ more → set (set cols i new) i (take (length old) new) ≡ cols
set-back cols i new more old at e = set-set cols i new (take (length old) new) ∙ ap (set cols i) (ap (take (length old)) e ∙ take-append_seam old more ∙ at) ∙ set-get_or cols i old
