-- The columns of a part's bytes one after the other, and the part that ids and columns make.
use Rattle.std.proofs.Common.{◌≡◌, inl, inr, ℕ, zero, suc, ◌+◌, ◌^◌, ◌<◌, ◌≤◌, List, [], ◌∷◌, ◌++◌, length, map, drop, get_or, refl, sym, ◌∙◌, ap, subst, arith}
use Rattle.std.proofs.lemmas.Bool.{cases_lt}
use Rattle.std.proofs.lemmas.List.{append_assoc, append_cancel_left, length-append, length-map, get_or-map, get_or_append_left, get_or-append-add, drop_more, ext_get_or, flat_map_more}
use Rattle.std.specs.List.{flat_map}
use Rattle.ut_bits.specs.Words.{word_bytes}
use Rattle.ut_l2.specs.KeyRows.{KeyRow, cells_at, key_at, no_row}
use Rattle.ut_own.specs.Own.{own_dict}
use Rattle.ut_prefix.specs.Chain.{end_to_end}
use Rattle.ut_value.specs.declared.value.Column.{Column}
use Rattle.ut_main.specs.Columns.{Chain, ColumnValue, no_column}
use Rattle.ut_main.specs.Parts.{PartValue, MainValue, AreWide, part_value, IsPart, dicts_behind, rows_in}
use Rattle.ut_main.specs.Spelling.{id_bytes, column_bytes, columns_of, part_bytes, AreIds, AreKeys, kind_at, MayStand}
use Rattle.ut_main.specs.Reading.{MayBeIds, MayBeColumn, MayBeColumns}
use Rattle.ut_main.proofs.PartLemmas.{part-length, part-wide, part-before, part-cells}
use Rattle.ut_main.proofs.MainLemmas.{length-dicts_behind}
use Rattle.ut_main.proofs.IdLemmas.{id-at, head-of}
use Rattle.ut_main.proofs.WritingLemmas.{columns-made, ids-made, column-at, length-columns_from}
use Rattle.ut_main.proofs.ReadLemmas.{column-one}

-- ---- columns one after the other

-- so many columns were read from bytes, and whatever columns the bytes spell, those behind them are left
pub record IsReadTo (columns : List Column) (main : MainValue) (rows : ℕ) (bytes : List ℕ) (j : ℕ) (read : List ColumnValue) (rest : List ℕ) : Type 0 where
  pub count : length read ≡ j
  pub each : (k : ℕ) → k < j → MayBeColumn rows (kind_at k columns) (get_or (dicts_behind main) k []) (get_or read k no_column)
  pub spelled : bytes ≡ flat_map column_bytes read ++ rest
  pub agrees : (cs : List ColumnValue) → MayBeColumns columns main rows cs → bytes ≡ flat_map column_bytes cs → rest ≡ flat_map column_bytes (drop j cs)

module _ (columns : List Column) (main : MainValue) (rows : ℕ) (bytes : List ℕ) (j : ℕ) (read : List ColumnValue) (rest : List ℕ) (wide : length columns ≡ main.width) (h : IsReadTo columns main rows bytes j read rest) where
  -- the next column of whatever columns the bytes spell
  pub read-next : (cs : List ColumnValue) → j < main.width → MayBeColumns columns main rows cs → bytes ≡ flat_map column_bytes cs → rest ≡ column_bytes (get_or cs j no_column) ++ flat_map column_bytes (drop (j + 1) cs)
  read-next cs lt may is = h.agrees cs may is ∙ ap (λ (l : List ColumnValue). flat_map column_bytes l) (drop_more cs j no_column (omega (arith, lt, may.count)))

  pub read-more : (column : ColumnValue) (later : List ℕ) (new : List ColumnValue) → j < main.width → rows < 2 ^ 31 → length (end_to_end (get_or (dicts_behind main) j [])) + rows ≤ 2147483647
      → MayBeColumn rows (kind_at j columns) (get_or (dicts_behind main) j []) column → rest ≡ column_bytes column ++ later → new ≡ read ++ column ∷ [] → IsReadTo columns main rows bytes (j + 1) new later
  read-more column later new lt few low may e push = record {
    count = omega (arith, ap length push, length-append read (column ∷ []), h.count);
    each = λ k small. elim (cases_lt k j) [
      | inl before ↦
          let at : get_or new k no_column ≡ get_or read k no_column = ap (λ (l : List ColumnValue). get_or l k no_column) push ∙ get_or_append_left read (column ∷ []) no_column k (omega (arith, before, h.count)) in
          subst (MayBeColumn rows (kind_at k columns) (get_or (dicts_behind main) k [])) (sym at) (h.each k before)
      | inr last ↦
          let here : k ≡ length read + 0 = omega (arith, last, small, h.count) in
          let same : j ≡ k = omega (arith, last, small) in
          let at : get_or new k no_column ≡ column = ap (λ (l : List ColumnValue). get_or l k no_column) push ∙ ap (λ n. get_or (read ++ column ∷ []) n no_column) here ∙ get_or-append-add read (column ∷ []) 0 no_column in
          subst (MayBeColumn rows (kind_at k columns) (get_or (dicts_behind main) k [])) (sym at) (subst (λ n. MayBeColumn rows (kind_at n columns) (get_or (dicts_behind main) n []) column) same may)
    ];
    spelled =
        h.spelled ∙ ap (λ (l : List ℕ). flat_map column_bytes read ++ l) e ∙ sym (append_assoc (flat_map column_bytes read) (column_bytes column) later)
        ∙ ap (λ (l : List ℕ). l ++ later) (flat_map_more column_bytes [] read column) ∙ ap (λ (l : List ColumnValue). flat_map column_bytes l ++ later) (sym push);
    agrees = λ cs all is.
        (column-one rows (kind_at j columns) (get_or (dicts_behind main) j []) column (get_or cs j no_column) later (flat_map column_bytes (drop (j + 1) cs)) few low may (all.each j (omega (arith, lt, wide)))
        (sym e ∙ read-next cs lt all is)).1;
  }

  pub read-all : main.width ≤ j → j ≤ main.width → rest ≡ [] → MayBeColumns columns main rows read × (bytes ≡ flat_map column_bytes read)
  read-all ge le none = (
    record { count = omega (arith, h.count, ge, le); each = λ k lt. h.each k (omega (arith, lt, wide, ge)) },
    h.spelled ∙ ap (λ (l : List ℕ). flat_map column_bytes read ++ l) none ∙ ends (flat_map column_bytes read),
  )
    where
      ends : (xs : List ℕ) → xs ++ [] ≡ xs
      ends [] = refl
      ends (x ∷ xs) = ap (λ (l : List ℕ). x ∷ l) (ends xs)

-- ---- a part of ids and columns

module _ (columns : List Column) (main : MainValue) (ids : List ℕ) (cs : List ColumnValue) (wide : length columns ≡ main.width) (heads : MayBeIds (rows_in main) ids) (cols : MayBeColumns columns main (length ids) cs) where
  pub part-made : IsPart ids cs
  part-made = record {
    few = let few = heads.few in omega (arith, few);
    equal = λ j lt. (cols.each j (omega (arith, lt, wide, cols.count))).count;
  }

  pub part-stands : MayStand columns main (part_value ids cs)
  part-stands = record {
    before =
        let size = length-map cs (λ (c : ColumnValue). c.before) in
        ext_get_or [] (map (λ (c : ColumnValue). c.before) cs) (dicts_behind main) (omega (arith, size, cols.count, length-dicts_behind main)) (λ j lt.
        let within : j < length cs = omega (arith, lt, size) in
        part-before ids cs part-made j within ∙ (cols.each j (omega (arith, within, wide, cols.count))).before);
    wide = subst (λ n. AreWide n (part_value ids cs).rows) cols.count (part-wide ids cs part-made);
    few = let few = heads.few in omega (arith, few, part-length ids cs part-made);
    ids = subst AreIds (ids-made ids (map (λ (c : ColumnValue). c.cells) cs)) heads.ids;
    kinds = λ j lt.
        let within : j < length cs = omega (arith, lt, wide, cols.count) in
        let before = sym (part-before ids cs part-made j within) in
        let cells = sym (part-cells ids cs part-made j within) in
        subst (AreKeys (kind_at j columns)) (λ i. own_dict (end_to_end (before i)) (cells i)) (cols.each j lt).kinds;
  }

  pub part-spelled : (bytes rest : List ℕ) → bytes ≡ id_bytes ids ++ rest → rest ≡ flat_map column_bytes cs → bytes ≡ part_bytes (part_value ids cs)
  part-spelled bytes rest head tail =
      let i = ids-made ids (map (λ (c : ColumnValue). c.cells) cs) in
      let s = columns-made ids cs part-made in
      head ∙ ap (λ (l : List ℕ). id_bytes ids ++ l) tail ∙ (λ k. id_bytes (i k) ++ flat_map column_bytes (s k))

-- ---- the ids and columns of a part

module _ (columns : List Column) (main : MainValue) (part : PartValue) (wide : length columns ≡ main.width) (h : MayStand columns main part) where
  pub stands-ids : MayBeIds (rows_in main) (map (λ r. r.id) part.rows)
  stands-ids = record { few = let few = h.few in omega (arith, few, length-map part.rows (λ (r : KeyRow). r.id)); ids = h.ids }

  size : length part.before ≡ main.width
  size = ap length h.before ∙ length-dicts_behind main

  pub stands-columns : MayBeColumns columns main (length part.rows) (columns_of part)
  stands-columns = record {
    count = length-columns_from 0 part.before part.rows ∙ size;
    each = λ j lt.
        let within : j < length part.before = omega (arith, lt, wide, size) in
        subst (MayBeColumn (length part.rows) (kind_at j columns) (get_or (dicts_behind main) j [])) (sym (column-at part j within)) (record {
          before = ap (λ (l : List Chain). get_or l j []) h.before;
          count = length-map part.rows (key_at j);
          kinds = h.kinds j lt;
        });
  }

-- ---- no other part

-- bytes begin with the bytes of but one list of ids
pub ids-one : (ids others rest more : List ℕ) → length ids ≤ 2147483647 → length others ≤ 2147483647 → AreIds ids → AreIds others → id_bytes ids ++ rest ≡ id_bytes others ++ more → (ids ≡ others) × (rest ≡ more)
ids-one ids others rest more few less h k e =
    let one = head-of ids rest (id_bytes ids ++ rest) few refl in
    let two = head-of others more (id_bytes ids ++ rest) less e in
    let size : length ids ≡ length others = sym one.1 ∙ two.1 in
    let body = drop 4 (id_bytes ids ++ rest) in
    let same : ids ≡ others = ext_get_or 0 ids others size (λ i lt.
    sym (id-at ids rest body i one.2 h lt).0 ∙ (id-at others more body i two.2 k (omega (arith, lt, size))).0) in
    (same, append_cancel_left (flat_map word_bytes ids) rest more (sym one.2 ∙ two.2 ∙ ap (λ (l : List ℕ). flat_map word_bytes l ++ more) (sym same)))

columns-one : (columns : List Column) (main : MainValue) (rows : ℕ) (n : ℕ) (j : ℕ) (xs ys : List ColumnValue) → length columns ≡ main.width → rows < 2 ^ 31
    → ((k : ℕ) → k < main.width → length (end_to_end (get_or (dicts_behind main) k [])) + rows ≤ 2147483647)
    → MayBeColumns columns main rows xs → MayBeColumns columns main rows ys → n + j ≡ main.width → flat_map column_bytes (drop j xs) ≡ flat_map column_bytes (drop j ys) → (k : ℕ) → j ≤ k → k < main.width → get_or xs k no_column ≡ get_or ys k no_column
columns-one columns main rows zero j xs ys wide few low ha hb count e k ge lt = absurd (omega (arith, count, ge, lt))
columns-one columns main rows (suc n) j xs ys wide few low ha hb count e k ge lt =
    let within : j < main.width = omega (arith, count) in
    let a = ap (λ (l : List ColumnValue). flat_map column_bytes l) (drop_more xs j no_column (omega (arith, within, ha.count))) in
    let b = ap (λ (l : List ColumnValue). flat_map column_bytes l) (drop_more ys j no_column (omega (arith, within, hb.count))) in
    let one = column-one rows (kind_at j columns) (get_or (dicts_behind main) j []) (get_or xs j no_column) (get_or ys j no_column) (flat_map column_bytes (drop (j + 1) xs)) (flat_map column_bytes (drop (j + 1) ys)) few (low j within)
    (ha.each j (omega (arith, within, wide))) (hb.each j (omega (arith, within, wide))) (sym a ∙ e ∙ b) in
    elim (cases_lt j k) [
      | inl less ↦ columns-one columns main rows n (j + 1) xs ys wide few low ha hb (omega (arith, count)) one.1 k (omega (arith, less)) lt
      | inr here ↦ let same : j ≡ k = omega (arith, here, ge) in subst (λ m. get_or xs m no_column ≡ get_or ys m no_column) same one.0
    ]

-- rows of the same ids and cells are the same
rows-same : (width : ℕ) (rows others : List KeyRow) → AreWide width rows → AreWide width others → map (λ r. r.id) rows ≡ map (λ r. r.id) others → ((j : ℕ) → j < width → cells_at j rows ≡ cells_at j others) → rows ≡ others
rows-same width rows others wa wb ids cells =
    let size : length rows ≡ length others = sym (length-map rows (λ (r : KeyRow). r.id)) ∙ ap length ids ∙ length-map others (λ (r : KeyRow). r.id) in
    ext_get_or no_row rows others size (λ i lt.
    let lo : i < length others = omega (arith, lt, size) in
    let id : (get_or rows i no_row).id ≡ (get_or others i no_row).id =
    sym (get_or-map (λ (r : KeyRow). r.id) rows i no_row 0 lt) ∙ ap (λ (l : List ℕ). get_or l i 0) ids ∙ get_or-map (λ (r : KeyRow). r.id) others i no_row 0 lo in
    let keys : (get_or rows i no_row).keys ≡ (get_or others i no_row).keys =
    ext_get_or [] (get_or rows i no_row).keys (get_or others i no_row).keys (wa i no_row lt ∙ sym (wb i no_row lo)) (λ j within.
    let small : j < width = omega (arith, within, wa i no_row lt) in
    sym (get_or-map (key_at j) rows i no_row [] lt) ∙ ap (λ (l : List (List ℕ)). get_or l i []) (cells j small) ∙ get_or-map (key_at j) others i no_row [] lo) in
    λ k. record { id = id k; keys = keys k })

-- parts that may stand behind the same main and have the same bytes are the same
pub part-one : (columns : List Column) (main : MainValue) (a b : PartValue) → length columns ≡ main.width
    → ((k : ℕ) → k < main.width → length (end_to_end (get_or (dicts_behind main) k [])) ≤ rows_in main) → MayStand columns main a → MayStand columns main b → part_bytes a ≡ part_bytes b → a ≡ b
part-one columns main a b wide low ha hb e =
    let ia = stands-ids columns main a wide ha in
    let ib = stands-ids columns main b wide hb in
    let few = ia.few in
    let less = ib.few in
    let head = ids-one (map (λ (r : KeyRow). r.id) a.rows) (map (λ (r : KeyRow). r.id) b.rows) (flat_map column_bytes (columns_of a)) (flat_map column_bytes (columns_of b)) (omega (arith, few)) (omega (arith, less)) ia.ids ib.ids e in
    let size : length a.rows ≡ length b.rows = sym (length-map a.rows (λ (r : KeyRow). r.id)) ∙ ap length head.0 ∙ length-map b.rows (λ (r : KeyRow). r.id) in
    let ca = stands-columns columns main a wide ha in
    let cb = subst (λ n. MayBeColumns columns main n (columns_of b)) (sym size) (stands-columns columns main b wide hb) in
    let all = ha.few in
    let start : main.width + 0 ≡ main.width = omega arith in
    let each = columns-one columns main (length a.rows) main.width 0 (columns_of a) (columns_of b) wide (omega (arith, all)) (λ k lt. let l = low k lt in omega (arith, l, all)) ca cb start head.1 in
    let before : a.before ≡ b.before = ha.before ∙ sym hb.before in
    let sa = size_of a ha in
    let sb = size_of b hb in
    let rows : a.rows ≡ b.rows = rows-same main.width a.rows b.rows ha.wide hb.wide head.0 (λ j lt.
    let la : j < length a.before = omega (arith, lt, sa) in
    let lb : j < length b.before = omega (arith, lt, sb) in
    ap (λ (c : ColumnValue). c.cells) (sym (column-at a j la) ∙ each j (omega arith) lt ∙ column-at b j lb)) in
    λ i. record { before = before i; rows = rows i }
  where
    size_of : (p : PartValue) → MayStand columns main p → length p.before ≡ main.width
    size_of p h = ap length h.before ∙ length-dicts_behind main
