-- Bytes that were added behind others, and the ids and columns of a part.
use Rattle.std.proofs.Common.{◌≡◌, ℕ, zero, suc, ◌+◌, ◌<◌, ◌≤◌, List, [], ◌∷◌, ◌++◌, length, map, take, get_or, refl, sym, ◌∙◌, ap, arith}
use Rattle.std.proofs.lemmas.List.{length-append, take-take, ext_get_or, get_or-map, length-map}
use Rattle.std.proofs.Math.Seq.{take-append_seam}
use Rattle.ut_l2.specs.KeyRows.{KeyRow, cells_at, no_row}
use Rattle.ut_l2.specs.Delta.{rows_of}
use Rattle.ut_l2.proofs.DeltaLemmas.{rows-length, row-get}
use Rattle.ut_main.specs.Columns.{Chain, ColumnValue, no_column}
use Rattle.ut_main.specs.Parts.{PartValue, part_value, IsPart}
use Rattle.ut_main.specs.Spelling.{columns_from, columns_of}
use Rattle.ut_main.proofs.PartLemmas.{part-before, part-cells}

-- ---- bytes

pub kept : (old more new : List ℕ) → new ≡ old ++ more → take (length old) new ≡ old
kept old more new e = ap (take (length old)) e ∙ take-append_seam old more

pub kept-more : (old more mid new : List ℕ) → mid ≡ old ++ more → take (length mid) new ≡ mid → take (length old) new ≡ old
kept-more old more mid new e h =
    let size = ap length e in
    let le : length old ≤ length mid = omega (arith, size, length-append old more) in
    sym (take-take (length old) (length mid) new le) ∙ ap (take (length old)) h ∙ kept old more mid e

-- ---- columns

pub length-columns_from : (k : ℕ) (dicts : List Chain) (rows : List KeyRow) → length (columns_from k dicts rows) ≡ length dicts
length-columns_from k [] rows = refl
length-columns_from k (chain ∷ dicts) rows = ap suc (length-columns_from (suc k) dicts rows)

get-columns_from : (k j : ℕ) (dicts : List Chain) (rows : List KeyRow) → j < length dicts → get_or (columns_from k dicts rows) j no_column ≡ record { before = get_or dicts j []; cells = cells_at (j + k) rows }
get-columns_from k j [] rows lt = absurd (omega (arith, lt))
get-columns_from k zero (chain ∷ dicts) rows lt = let e : k ≡ 0 + k = omega arith in ap (λ n. (let c : ColumnValue = record { before = chain; cells = cells_at n rows } in c)) e
get-columns_from k (suc j) (chain ∷ dicts) rows lt =
    let e : j + suc k ≡ suc j + k = omega arith in get-columns_from (suc k) j dicts rows (omega (arith, lt)) ∙ ap (λ n. (let c : ColumnValue = record { before = get_or dicts j []; cells = cells_at n rows } in c)) e

pub column-at : (part : PartValue) (j : ℕ) → j < length part.before → get_or (columns_of part) j no_column ≡ record { before = get_or part.before j []; cells = cells_at j part.rows }
column-at part j lt =
    let e : j + 0 ≡ j = omega arith in
    get-columns_from 0 j part.before part.rows lt ∙ ap (λ n. (let c : ColumnValue = record { before = get_or part.before j []; cells = cells_at n part.rows } in c)) e

-- the columns of a part are those that it was made of
pub columns-made : (ids : List ℕ) (columns : List ColumnValue) → IsPart ids columns → columns ≡ columns_of (part_value ids columns)
columns-made ids columns h =
    let p = part_value ids columns in
    let size = length-map columns (λ (c : ColumnValue). c.before) in
    let all = length-columns_from 0 (part_value ids columns).before (part_value ids columns).rows in
    ext_get_or no_column columns (columns_of (part_value ids columns)) (omega (arith, size, all)) (λ j lt.
    let within : j < length (part_value ids columns).before = omega (arith, lt, size) in
    let before = part-before ids columns h j lt in
    let cells = part-cells ids columns h j lt in
    let made : (let c : ColumnValue = record { before = get_or (part_value ids columns).before j []; cells = cells_at j (part_value ids columns).rows } in c) ≡ get_or columns j no_column =
    λ i. record { before = before i; cells = cells i } in
    sym (column-at (part_value ids columns) j within ∙ made))

-- ---- ids

pub ids-made : (ids : List ℕ) (cells : List (List (List ℕ))) → ids ≡ map (λ r. r.id) (rows_of ids cells)
ids-made ids cells =
    let size = length-map (rows_of ids cells) (λ (r : KeyRow). r.id) ∙ rows-length ids cells in
    ext_get_or 0 ids (map (λ (r : KeyRow). r.id) (rows_of ids cells)) (omega (arith, size)) (λ i lt.
    let within : i < length (rows_of ids cells) = omega (arith, lt, rows-length ids cells) in
    sym (get_or-map (λ (r : KeyRow). r.id) (rows_of ids cells) i no_row 0 within ∙ ap (λ (r : KeyRow). r.id) (row-get ids cells i lt)))
