-- The new part is of the new rows, and main with it is main behind the merge.
use Rattle.std.proofs.Common.{◌≡◌, inl, inr, ℕ, ◌+◌, ◌<◌, ◌≤◌, List, [], ◌∷◌, ◌++◌, length, map, get_or, sym, ◌∙◌, ap, subst, arith}
use Rattle.std.specs.Arc.{arc_value}
use Rattle.std.specs.Global.{Vec}
use Rattle.std.proofs.lemmas.Bool.{cases_lt}
use Rattle.std.proofs.lemmas.List.{get_or-map, get_or_append_left, get_or_at, get_or_default, ext_get_or, same_lists, length-append, length-map}
use Rattle.std.proofs.lemmas.List.Sorted.{length_permutation}
use Rattle.ut_bits.specs.Bits.{AllBelow}
use Rattle.ut_codes.specs.Reached.{Reached}
use Rattle.ut_own.specs.Own.{own_dict, cells_of}
use Rattle.ut_prefix.specs.Chain.{end_to_end, shared_dicts}
use Rattle.ut_prefix.proofs.ChainLemmas.{dict_at, end_to_end-push}
use Rattle.ut_l2.specs.KeyRows.{KeyRow, cells_at, key_at, no_row}
use Rattle.ut_l2.specs.Delta.{row_at, rows_of}
use Rattle.ut_l2.proofs.DeltaLemmas.{rows-length, row-get}
use Rattle.ut_main.specs.Columns.{Chain, ColumnValue, no_column, StandsBehind}
use Rattle.ut_main.specs.Parts.{MainValue, dicts_behind, first_parts, part_value, rows_in, AreWide, IsPart}
use Rattle.ut_main.proofs.MainLemmas.{length-dicts_behind}
use Rattle.ut_main.proofs.OwnLemmas.{own-length}
use Rattle.ut_merge.specs.declared.arranging.NewRows.{NewRows}
use Rattle.ut_merge.specs.Jobs.{JobValue, kept_olds, kept_rows, main_of, new_rows, row_of, stay_of, IsJob}
use Rattle.ut_merge.specs.Columns.{codes_in, main_before, staying_chain, staying_keys, IsColumn}
use Rattle.ut_merge.specs.NewRows.{AreColumns, AreNewRows}
use Rattle.ut_merge.proofs.GatherLemmas.{coded-size}
use Rattle.ut_merge.proofs.KeptLemmas.{kept-few, kept-low, rows-olds, staying-le}
use Rattle.ut_merge.proofs.LayoutLemmas.{staying-few}

-- ---- a column behind those that stay

module _ (job : JobValue) (column : ℕ) (rows : List KeyRow) (dict : List (List ℕ)) (codes : List ℕ) (before : Chain) (v : Reached) (at : before ≡ staying_chain job column) (h : IsColumn job column rows dict codes)
    (reach : v.reach ≡ length (end_to_end before) + length dict) (same : v.codes ≡ codes) where
  keys : end_to_end (before ++ dict ∷ []) ≡ staying_keys job column ++ dict
  keys = end_to_end-push before dict ∙ ap (λ (c : Chain). end_to_end c ++ dict) at

  size : v.reach ≡ length (staying_keys job column ++ dict)
  size = reach ∙ ap (λ (c : Chain). length (end_to_end c) + length dict) at ∙ sym (length-append (staying_keys job column) dict)

  pub column-cells : cells_of (end_to_end (before ++ dict ∷ [])) v.codes ≡ cells_at column rows
  column-cells = (λ i. cells_of (keys i) (same i)) ∙ h.coded.cells_are

  pub column-below : AllBelow v.reach v.codes
  column-below = subst (λ n. AllBelow n v.codes) (sym size) (subst (λ (l : List ℕ). AllBelow (length (staying_keys job column ++ dict)) l) (sym same) h.coded.below)

  pub stands : StandsBehind before dict v
  stands = record {
    reach = size ∙ ap (λ (l : List (List ℕ)). length l) (sym keys);
    below = column-below;
    own = h.own ∙ (λ i. own_dict (end_to_end (sym at i)) (sym column-cells i));
  }

-- ---- rows of columns

rows-made : (rows : List KeyRow) (ids : List ℕ) (cols : List (List (List ℕ))) (width : ℕ) → AreWide width rows → ids ≡ map (λ row. row.id) rows → length cols ≡ width → ((j : ℕ) → j < width → get_or cols j [] ≡ cells_at j rows) → rows_of ids cols ≡ rows
rows-made rows ids cols width wide ids_are size cells =
    same_lists (rows_of ids cols) rows (rows-length ids cols ∙ size_ids) (λ k d lt.
    let low : k < length ids = omega (arith, lt, rows-length ids cols) in
    get_or_default (rows_of ids cols) k d no_row lt ∙ row-get ids cols k low ∙ one k (omega (arith, low, size_ids)) ∙ get_or_default rows k no_row d (omega (arith, low, size_ids)))
  where
    size_ids : length ids ≡ length rows
    size_ids = ap (λ (l : List ℕ). length l) ids_are ∙ length-map rows (λ row. row.id)

    same : {a b : ℕ} {x y : List (List ℕ)} → a ≡ b → x ≡ y → (let r : KeyRow = record { id = a; keys = x } in r) ≡ record { id = b; keys = y }
    same p q = λ i. record { id = p i; keys = q i }

    one : (k : ℕ) → k < length rows → row_at ids cols k ≡ get_or rows k no_row
    one k lt =
        same (ap (λ (l : List ℕ). get_or l k 0) ids_are ∙ get_or-map (λ (r : KeyRow). r.id) rows k no_row 0 lt)
        (ext_get_or [] (map (λ c. get_or c k []) cols) (get_or rows k no_row).keys (length-map cols (λ c. get_or c k []) ∙ size ∙ sym (wide k no_row lt)) (λ j l.
        let low : j < width = omega (arith, l, length-map cols (λ c. get_or c k []), size) in
        get_or-map (λ c. get_or c k []) cols j [] [] (omega (arith, low, size)) ∙ ap (λ (c : List (List ℕ)). get_or c k []) (cells j low) ∙ get_or-map (key_at j) rows k no_row [] lt))

-- one column more
pub columns-more : (job : JobValue) (rows : List KeyRow) (n : ℕ) (columns new : List ColumnValue) (c : ColumnValue) → AreColumns job rows n columns → c.before ≡ staying_chain job n → c.cells ≡ cells_at n rows → new ≡ columns ++ c ∷ [] → AreColumns job rows (n + 1) new
columns-more job rows n columns new c h before cells e = record {
  count = ap (λ (l : List ColumnValue). length l) e ∙ length-append columns (c ∷ []) ∙ ap (λ m. m + 1) h.count;
  before = λ j lt. each (λ m (x : ColumnValue). x.before ≡ staying_chain job m) h.before before j lt;
  cells = λ j lt. each (λ m (x : ColumnValue). x.cells ≡ cells_at m rows) h.cells cells j lt;
}
  where
    each : (P : ℕ → ColumnValue → Type 0) → ((j : ℕ) → j < n → P j (get_or columns j no_column)) → P n c → (j : ℕ) → j < n + 1 → P j (get_or new j no_column)
    each P old here j lt = elim (cases_lt j n) [
      | inl before ↦
          let count = h.count in
          subst (P j) (sym (ap (λ (l : List ColumnValue). get_or l j no_column) e ∙ get_or_append_left columns (c ∷ []) no_column j (omega (arith, before, count)))) (old j before)
      | inr behind ↦
          let same : n ≡ j = omega (arith, behind, lt) in
          subst (λ m. P m (get_or new m no_column)) same
          (subst (P n) (sym (ap (λ (l : List ColumnValue). get_or l n no_column) e ∙ get_or_at columns c [] no_column n h.count)) here)
    ]

-- ---- the new part

module _ (job : JobValue) (rows : List KeyRow) (staying : MainValue) (ids : List ℕ) (columns : List ColumnValue) (at : staying ≡ first_parts (stay_of job) (main_before job)) (wide : AreWide job.width rows) (ids_are : ids ≡ map (λ row. row.id) rows)
    (h : AreColumns job rows job.width columns) where
  size-ids : length ids ≡ length rows
  size-ids = ap (λ (l : List ℕ). length l) ids_are ∙ length-map rows (λ row. row.id)

  pub part-is : length rows ≤ 2147483647 → IsPart ids columns
  part-is few = record {
    few = omega (arith, few, size-ids);
    equal = λ j lt.
        let count = h.count in
        ap (λ (l : List (List ℕ)). length l) (h.cells j (omega (arith, lt, count))) ∙ length-map rows (key_at j) ∙ sym size-ids;
  }

  pub part-before : (part_value ids columns).before ≡ dicts_behind staying
  part-before =
      same_lists (map (λ (c : ColumnValue). c.before) columns) (dicts_behind staying)
      (length-map columns (λ (c : ColumnValue). c.before) ∙ h.count ∙ sym (length-dicts_behind staying ∙ ap (λ (m : MainValue). m.width) at))
      (λ j d lt.
      let count = h.count in
      let low : j < job.width = omega (arith, lt, count, length-map columns (λ (c : ColumnValue). c.before)) in
      get_or-map (λ (c : ColumnValue). c.before) columns j no_column d (omega (arith, low, count)) ∙ h.before j low
      ∙ ap (λ (m : MainValue). get_or (dicts_behind m) j []) (sym at)
      ∙ get_or_default (dicts_behind staying) j [] d (omega (arith, low, length-dicts_behind staying, ap (λ (m : MainValue). m.width) at)))

  pub part-rows : (part_value ids columns).rows ≡ rows
  part-rows = rows-made rows ids (map (λ (c : ColumnValue). c.cells) columns) job.width wide ids_are (length-map columns (λ (c : ColumnValue). c.cells) ∙ h.count)
      (λ j low. let count = h.count in get_or-map (λ (c : ColumnValue). c.cells) columns j no_column [] (omega (arith, low, count)) ∙ h.cells j low)

-- ---- how many rows there are

pub new-count : (job : JobValue) (new : NewRows) → AreNewRows job (new_rows job) new → length (new_rows job) ≡ length (kept_rows job)
new-count job new h =
    ap (λ (l : List KeyRow). length l) (sym h.rows_are) ∙ length-map new.olds.items (row_of job) ∙ length_permutation (kept_olds job) new.olds.items h.places
    ∙ sym (length-map (kept_olds job) (row_of job)) ∙ ap (λ (l : List KeyRow). length l) (rows-olds job)

pub new-few : (job : JobValue) (new : NewRows) (staying : MainValue) → IsJob job → stay_of job ≤ length job.parts → staying ≡ first_parts (stay_of job) (main_before job) → AreNewRows job (new_rows job) new → rows_in staying + length (new_rows job) ≤ 2147483647
new-few job new staying is le at h =
    let count = new-count job new h in
    let few = kept-few job is le in
    let rows = ap (λ (m : MainValue). rows_in m) at in
    omega (arith, count, few, rows)

pub new-low : (job : JobValue) (new : NewRows) → IsJob job → AreNewRows job (new_rows job) new → length (new_rows job) ≤ 2147483647
new-low job new is h = omega (arith, new-count job new h, kept-low job is)

-- main with the new part
pub main-built : (job : JobValue) (staying main : MainValue) (rows : List KeyRow) → staying ≡ first_parts (stay_of job) (main_before job) → rows ≡ new_rows job → main ≡ record staying { parts = staying.parts ++ rows ∷ [] } → main ≡ main_of job
main-built job staying main rows at same e = e ∙ (λ i. record { width = (at i).width; parts = (at i).parts ++ same i ∷ [] })

-- ---- a column, as its dictionary and its codes are read

-- a column of the new rows, and its dictionary
pub record IsRead (job : JobValue) (n : ℕ) (new : NewRows) (staying : MainValue) (dict : List (List ℕ)) : Type 0 where
  pub is_job : IsJob job
  pub at : staying ≡ first_parts (stay_of job) (main_before job)
  pub rows : AreNewRows job (new_rows job) new
  pub lt : n < job.width
  pub own : dict ≡ get_or (shared_dicts new.dicts.items) n []

pub column-read : (job : JobValue) (n : ℕ) (new : NewRows) (staying : MainValue) (item : _) (dict : List (List ℕ)) → IsJob job → staying ≡ first_parts (stay_of job) (main_before job) → AreNewRows job (new_rows job) new → n < job.width
    → item ≡ get_or new.dicts.items n item → dict ≡ arc_value item → IsRead job n new staying dict
column-read job n new staying item dict is_job at rows lt item_is dict_is = record {
  is_job = is_job;
  at = at;
  rows = rows;
  lt = lt;
  own = let count = rows.dicts_count in (dict_at new.dicts.items n item dict (omega (arith, lt, count)) item_is dict_is).1;
}

module _ (job : JobValue) (n : ℕ) (new : NewRows) (staying : MainValue) (dict : List (List ℕ)) (read : IsRead job n new staying dict) where
  stays : stay_of job ≤ length job.parts
  stays = staying-le job.head.kind (length job.parts)

  chain : get_or (dicts_behind staying) n [] ≡ staying_chain job n
  chain = ap (λ (m : MainValue). get_or (dicts_behind m) n []) read.at

  few : rows_in staying + length (new_rows job) ≤ 2147483647
  few = new-few job new staying read.is_job stays read.at read.rows

  -- how far its codes may reach
  module _ (first more : ℕ) (starts : first ≡ length (end_to_end (get_or (dicts_behind staying) n []))) (counts : more ≡ length dict) where
    start : first ≡ length (staying_keys job n)
    start = starts ∙ ap (λ (c : Chain). length (end_to_end c)) chain

    pub reach-few : first + more ≤ 2147483647
    reach-few =
        let keys = staying-few job n read.lt stays in
        let short = own-length (staying_keys job n) (cells_at n (new_rows job)) in
        omega (arith, start, counts, keys, short, few, ap (λ (l : List (List ℕ)). length l) (read.own ∙ (read.rows.columns n read.lt).own), length-map (new_rows job) (key_at n), ap (λ (m : MainValue). rows_in m) read.at)

  module _ (list : Vec ℕ) (codes : List ℕ) (listed : list ≡ get_or new.codes.items n list) (codes_are : codes ≡ list.items) where
    here : IsColumn job n (new_rows job) dict codes
    here =
        let is : codes ≡ get_or (codes_in new.codes.items) n [] = codes_are ∙ ap (λ (v : Vec ℕ). v.items) listed ∙ sym (get_or-map (λ (v : Vec ℕ). v.items) new.codes.items n list [] (omega (arith, read.lt, read.rows.codes_count))) in
        subst (λ (d : List (List ℕ)). IsColumn job n (new_rows job) d codes) (sym read.own) (subst (λ (l : List ℕ). IsColumn job n (new_rows job) (get_or (shared_dicts new.dicts.items) n []) l) (sym is) (read.rows.columns n read.lt))

    pub codes-few : rows_in staying + length codes ≤ 2147483647
    codes-few =
        let size = coded-size (staying_keys job n ++ dict) (cells_at n (new_rows job)) codes here.coded in
        omega (arith, size, length-map (new_rows job) (key_at n), few)

    module _ (first more : ℕ) (starts : first ≡ length (end_to_end (get_or (dicts_behind staying) n []))) (counts : more ≡ length dict) where
      pub codes-below : AllBelow (first + more) codes
      codes-below =
          let reach : length (staying_keys job n ++ dict) ≡ first + more = omega (arith, start first more starts counts, counts, length-append (staying_keys job n) dict) in
          subst (λ m. AllBelow m codes) reach here.coded.below

      module _ (v : Reached) (reach : v.reach ≡ first + more) (same : v.codes ≡ codes) where
        pub column-stands : StandsBehind (get_or (dicts_behind staying) n []) dict v
        column-stands = stands job n (new_rows job) dict codes (get_or (dicts_behind staying) n []) v chain here (reach ∙ (λ i. starts i + counts i)) same

        pub column-made : cells_of (end_to_end (get_or (dicts_behind staying) n [] ++ dict ∷ [])) v.codes ≡ cells_at n (new_rows job)
        column-made = column-cells job n (new_rows job) dict codes (get_or (dicts_behind staying) n []) v chain here (reach ∙ (λ i. starts i + counts i)) same
