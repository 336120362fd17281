-- What the new part is made of, re-sorted.
use Rattle.std.proofs.Common.{◌≡◌, inl, inr, ℕ, ◌+◌, ◌<◌, List, [], ◌∷◌, ◌++◌, length, map, take, get_or, replicate, All, sym, ap, ◌∙◌, subst, arith}
use Rattle.std.specs.List.{range_with_len}
use Rattle.std.specs.List.Sorted.{IsPermutation, IsSorted}
use Rattle.std.specs.Global.{Vec}
use Rattle.std.proofs.lemmas.Bool.{cases_lt}
use Rattle.std.proofs.lemmas.List.{get_or-map, get_or-replicate, get_or_append_left, get_or_at, length-map}
use Rattle.std.proofs.lemmas.List.Elements.{All-weaker}
use Rattle.std.proofs.lemmas.List.Sorted.{IsPermutation-map, IsPermutation-trans, All-permutation}
use Rattle.ut_bits.proofs.BitLemmas.{AllBelow-at}
use Rattle.ut_key.specs.Keys.{IsAscending}
use Rattle.ut_value.specs.declared.entry.MergeKind.TheVariants.{Resort}
use Rattle.ut_own.specs.Own.{own_dict}
use Rattle.ut_prefix.specs.Chain.{end_to_end, shared_dicts}
use Rattle.ut_l2.specs.KeyRows.{KeyRow, cells_at, key_at, no_row}
use Rattle.ut_main.specs.Columns.{Chain}
use Rattle.ut_main.specs.Parts.{AreWide, dicts_of}
use Rattle.ut_plain.specs.Merges.{staying}
use Rattle.std.specs.Arc.{arc_value}
use Rattle.ut_main.proofs.OwnLemmas.{own-ascending}
use Rattle.ut_resort.specs.Resorted.{columns_by, code_at, IsCoded, row_cmp as code_cmp}
use Rattle.ut_resort.proofs.ResortLaws.{row_cmp-keys}
use Rattle.ut_resort.proofs.SortLemmas.{columns_by-within, sorted-map}
use Rattle.ut_merge.specs.Resorting.{column_order, distinct_in, resorted, row_cmp, width_of}
use Rattle.ut_merge.specs.declared.arranging.NewRows.{NewRows}
use Rattle.ut_merge.specs.declared.old.Old.{Old}
use Rattle.ut_merge.specs.declared.old.Old.TheVariants.{Closed}
use Rattle.ut_merge.specs.Jobs.{JobValue, arranged, kept_olds, kept_rows, new_rows, row_of, HaveOwnIds, IsJob}
use Rattle.ut_merge.specs.NewRows.{AreNewRows}
use Rattle.ut_merge.specs.Columns.{codes_in, staying_keys, AreCoded, IsColumn}
use Rattle.ut_merge.proofs.CountLemmas.{distinct-own}
use Rattle.ut_merge.proofs.ResortLemmas.{columns-same, resorted-only, row_key_cmp-rows}
use Rattle.ut_merge.proofs.MovedLemmas.{moved-coded, moved-map, moved-permutes, own-moved}
use Rattle.ut_merge.proofs.SeekLemmas.{permuted-within}
use Rattle.ut_merge.proofs.GatherLemmas.{coded-size}

-- a column with nothing before it
pub record IsSole (rows : List KeyRow) (j : ℕ) (dict : List (List ℕ)) (codes : List ℕ) : Type 0 where
  pub own : dict ≡ own_dict [] (cells_at j rows)
  pub coded : AreCoded dict (cells_at j rows) codes

-- where nothing stays
pub sole : (job : JobValue) (rows : List KeyRow) (j : ℕ) (dict : List (List ℕ)) (codes : List ℕ) → staying_keys job j ≡ [] → IsColumn job j rows dict codes → IsSole rows j dict codes
sole job rows j dict codes none h = record {
  own = h.own ∙ ap (λ (l : List (List ℕ)). own_dict l (cells_at j rows)) none;
  coded = subst (λ (l : List (List ℕ)). AreCoded (l ++ dict) (cells_at j rows) codes) none h.coded;
}

module _ (rows : List KeyRow) (width : ℕ) (ids : List ℕ) (dicts : List (List (List ℕ))) (codes : List (List ℕ)) (counts : List ℕ) (places : List ℕ) (wide : AreWide width rows) (ids_are : ids ≡ map (λ row. row.id) rows)
    (size_dicts : length dicts ≡ width) (size_codes : length codes ≡ width) (columns : (j : ℕ) → j < width → IsSole rows j (get_or dicts j []) (get_or codes j []))
    (counts_are : counts ≡ map length dicts) (there : IsPermutation (range_with_len 0 (length ids)) places) (sorted : IsSorted (code_cmp (columns_by counts) codes ids) places) where
  abbrev row : ℕ → KeyRow
  row p = get_or rows p no_row

  abbrev moved : List KeyRow
  moved = map (λ p. get_or rows p no_row) places

  size_ids : length ids ≡ length rows
  size_ids = ap (λ (l : List ℕ). length l) ids_are ∙ length-map rows (λ row. row.id)

  size_counts : length counts ≡ width
  size_counts = ap (λ (l : List ℕ). length l) counts_are ∙ length-map dicts length ∙ size_dicts

  all : IsPermutation (range_with_len 0 (length rows)) places
  all = subst (λ n. IsPermutation (range_with_len 0 n) places) size_ids there

  pub within : All (λ p. p < length rows) places
  within = permuted-within (length rows) places all

  pub moved-there : IsPermutation rows moved
  moved-there = moved-permutes rows no_row places all

  count-at : (c : ℕ) → c < length counts → get_or counts c 0 ≡ distinct_in rows c
  count-at c lt =
      let low : c < width = omega (arith, lt, size_counts) in
      ap (λ (l : List ℕ). get_or l c 0) counts_are ∙ get_or-map length dicts c [] 0 (omega (arith, low, size_dicts))
      ∙ ap length (columns c low).own ∙ sym (distinct-own (cells_at c rows))

  width-of : (p : ℕ) → p < length rows → width_of rows ≡ width
  width-of p lt = by rows (omega (arith, lt)) wide
    where
      by : (rs : List KeyRow) → 0 < length rs → AreWide width rs → width_of rs ≡ width
      by [] some w = absurd (omega arith)
      by (r ∷ rs) some w = w 0 r some

  by_columns : (p : ℕ) → p < length rows → columns_by counts ≡ column_order rows
  by_columns p lt = columns-same rows counts (size_counts ∙ sym (width-of p lt)) count-at

  columns-low : All (λ c. c < width) (columns_by counts)
  columns-low = subst (λ n. All (λ c. c < n) (columns_by counts)) size_counts (columns_by-within counts)

  id-at : (p : ℕ) → p < length rows → get_or ids p 0 ≡ (row p).id
  id-at p lt = ap (λ (l : List ℕ). get_or l p 0) ids_are ∙ get_or-map (λ r. r.id) rows p no_row 0 lt

  coded : (p : ℕ) → p < length rows → IsCoded (columns_by counts) (λ c. get_or dicts c []) (λ c place. key_at c (row place)) codes p
  coded p lt = record {
    ascending = All-weaker (λ c. c < width) (λ c. IsAscending (get_or dicts c [])) (λ c low. subst IsAscending (sym (columns c low).own) (own-ascending [] (cells_at c rows))) (columns_by counts) columns-low;
    within = All-weaker (λ c. c < width) (λ c. code_at codes c p < length (get_or dicts c [])) (λ c low.
        AllBelow-at (length (get_or dicts c [])) (get_or codes c []) p (columns c low).coded.below (omega (arith, lt, size-column c low))) (columns_by counts) columns-low;
    keys = All-weaker (λ c. c < width) (λ c. key_at c (row p) ≡ get_or (get_or dicts c []) (code_at codes c p) []) (λ c low.
        sym (get_or-map (key_at c) rows p no_row [] lt) ∙ ap (λ (l : List (List ℕ)). get_or l p []) (sym (columns c low).coded.cells_are)
        ∙ get_or-map (λ x. get_or (get_or dicts c []) x []) (get_or codes c []) p 0 [] (omega (arith, lt, size-column c low))) (columns_by counts) columns-low;
  }
    where
      size-column : (c : ℕ) → c < width → length (get_or codes c []) ≡ length rows
      size-column c low =
          sym (length-map (get_or codes c []) (λ x. get_or (get_or dicts c []) x [])) ∙ ap (λ (l : List (List ℕ)). length l) (columns c low).coded.cells_are ∙ length-map rows (key_at c)

  same-order : (p q : ℕ) → p < length rows → q < length rows → code_cmp (columns_by counts) codes ids p q ≡ row_cmp (column_order rows) (row p) (row q)
  same-order p q lt_p lt_q =
      row_cmp-keys (columns_by counts) (λ c. get_or dicts c []) (λ c place. key_at c (row place)) codes ids p q (coded p lt_p) (coded q lt_q)
      ∙ row_key_cmp-rows (columns_by counts) rows ids p q (id-at p lt_p) (id-at q lt_q)
      ∙ ap (λ by. row_cmp by (row p) (row q)) (by_columns p lt_p)

  -- rows that are sorted by their codes are the re-sorted rows
  pub moved-resorted : HaveOwnIds rows → moved ≡ resorted rows
  moved-resorted own =
      resorted-only rows moved own moved-there
      (sorted-map (code_cmp (columns_by counts) codes ids) (row_cmp (column_order rows)) (λ p. get_or rows p no_row) (λ p. p < length rows) places within same-order sorted)

-- ---- how many there are

module _ (job : JobValue) (rows : List KeyRow) (new : NewRows) (h : AreNewRows job rows new) where
  pub ids-size : length new.ids.items ≡ length rows
  ids-size = ap (λ (l : List ℕ). length l) h.ids_are ∙ length-map rows (λ row. row.id)

  pub olds-size : length new.olds.items ≡ length new.ids.items
  olds-size = sym (length-map new.olds.items (row_of job)) ∙ ap (λ (l : List KeyRow). length l) h.rows_are ∙ sym ids-size

  pub column-size : (k : ℕ) (d : Vec ℕ) → k < length new.codes.items → length (get_or new.codes.items k d).items ≡ length new.ids.items
  column-size k d lt =
      let same : get_or (codes_in new.codes.items) k [] ≡ (get_or new.codes.items k d).items = get_or-map (λ (v : Vec ℕ). v.items) new.codes.items k d [] lt in
      let low : k < job.width = omega (arith, lt, h.codes_count) in
      let coded = (h.columns k low).coded in
      ap (λ (l : List ℕ). length l) (sym same)
      ∙ coded-size (staying_keys job k ++ get_or (shared_dicts new.dicts.items) k []) (cells_at k rows) (get_or (codes_in new.codes.items) k []) coded
      ∙ length-map rows (key_at k) ∙ sym ids-size

-- one column more
pub columns-next : (job : JobValue) (rows : List KeyRow) (n : ℕ) (ds new_ds : List (List (List ℕ))) (cs new_cs : List (List ℕ)) (dict : List (List ℕ)) (codes : List ℕ) → length ds ≡ n → length cs ≡ n
    → ((j : ℕ) → j < n → IsColumn job j rows (get_or ds j []) (get_or cs j [])) → IsColumn job n rows dict codes → new_ds ≡ ds ++ dict ∷ [] → new_cs ≡ cs ++ codes ∷ []
    → (j : ℕ) → j < n + 1 → IsColumn job j rows (get_or new_ds j []) (get_or new_cs j [])
columns-next job rows n ds new_ds cs new_cs dict codes size_ds size_cs h here e_ds e_cs j lt = elim (cases_lt j n) [
  | inl before ↦
      move j (sym (ap (λ (l : List (List (List ℕ))). get_or l j []) e_ds ∙ get_or_append_left ds (dict ∷ []) [] j (omega (arith, before, size_ds))))
      (sym (ap (λ (l : List (List ℕ)). get_or l j []) e_cs ∙ get_or_append_left cs (codes ∷ []) [] j (omega (arith, before, size_cs)))) (h j before)
  | inr behind ↦
      let same : n ≡ j = omega (arith, behind, lt) in
      subst (λ m. IsColumn job m rows (get_or new_ds m []) (get_or new_cs m [])) same
      (move n (sym (ap (λ (l : List (List (List ℕ))). get_or l n []) e_ds ∙ get_or_at ds dict [] [] n size_ds)) (sym (ap (λ (l : List (List ℕ)). get_or l n []) e_cs ∙ get_or_at cs codes [] [] n size_cs)) here)
]
  where
    move : (m : ℕ) {a b : List (List ℕ)} {x y : List ℕ} → a ≡ b → x ≡ y → IsColumn job m rows a x → IsColumn job m rows b y
    move m {a} {b} {x} {y} p q is = subst (λ (l : List ℕ). IsColumn job m rows b l) q (subst (λ (d : List (List ℕ)). IsColumn job m rows d x) p is)

-- ---- what the new part is made of

-- nothing stays where rows are re-sorted
none-stays : (job : JobValue) (j : ℕ) → job.head.kind ≡ Resort → j < job.width → staying_keys job j ≡ []
none-stays job j e lt =
    (λ i. end_to_end (get_or (dicts_of (replicate job.width []) (take (staying (e i) (length job.parts)) job.parts)) j []))
    ∙ ap (λ (c : Chain). end_to_end c) (get_or-replicate job.width j [] [] lt)

module _ (job : JobValue) (old new : NewRows) (counts places : List ℕ) (e : job.head.kind ≡ Resort) (is : IsJob job) (h : AreNewRows job (kept_rows job) old) (counts_are : counts ≡ map length (shared_dicts old.dicts.items))
    (there : IsPermutation (range_with_len 0 (length old.ids.items)) places) (sorted : IsSorted (code_cmp (columns_by counts) (codes_in old.codes.items) old.ids.items) places)
    (olds : new.olds.items ≡ map (λ p. get_or old.olds.items p (Closed 0)) places) (ids : new.ids.items ≡ map (λ p. get_or old.ids.items p 0) places) (dicts : new.dicts.items ≡ old.dicts.items)
    (codes : codes_in new.codes.items ≡ map (λ (column : List ℕ). map (λ p. get_or column p 0) places) (codes_in old.codes.items)) where
  abbrev kept : List KeyRow
  kept = kept_rows job

  abbrev after : List KeyRow
  after = map (λ p. get_or (kept_rows job) p no_row) places

  size-dicts : length (shared_dicts old.dicts.items) ≡ job.width
  size-dicts = length-map old.dicts.items (λ dict. arc_value dict) ∙ h.dicts_count

  size-codes : length (codes_in old.codes.items) ≡ job.width
  size-codes = length-map old.codes.items (λ list. list.items) ∙ h.codes_count

  soles : (j : ℕ) → j < job.width → IsSole (kept_rows job) j (get_or (shared_dicts old.dicts.items) j []) (get_or (codes_in old.codes.items) j [])
  soles j lt = sole job kept j (get_or (shared_dicts old.dicts.items) j []) (get_or (codes_in old.codes.items) j []) (none-stays job j e lt) (h.columns j lt)

  low : All (λ p. p < length (kept_rows job)) places
  low = within kept job.width old.ids.items (shared_dicts old.dicts.items) (codes_in old.codes.items) counts places h.wide h.ids_are size-dicts size-codes soles counts_are there sorted

  permuted : IsPermutation (kept_rows job) after
  permuted = moved-there kept job.width old.ids.items (shared_dicts old.dicts.items) (codes_in old.codes.items) counts places h.wide h.ids_are size-dicts size-codes soles counts_are there sorted

  same-rows : after ≡ new_rows job
  same-rows = moved-resorted kept job.width old.ids.items (shared_dicts old.dicts.items) (codes_in old.codes.items) counts places h.wide h.ids_are size-dicts size-codes soles counts_are there sorted (is.differ e)
      ∙ sym (ap (λ kind. arranged kind (kept_rows job)) e)

  size-olds : length old.olds.items ≡ length (kept_rows job)
  size-olds = sym (length-map old.olds.items (row_of job)) ∙ ap (λ (l : List KeyRow). length l) h.rows_are

  size-ids : length old.ids.items ≡ length (kept_rows job)
  size-ids = ap (λ (l : List ℕ). length l) h.ids_are ∙ length-map kept (λ row. row.id)

  low-olds : All (λ p. p < length old.olds.items) places
  low-olds = subst (λ n. All (λ p. p < n) places) (sym size-olds) low

  column : (j : ℕ) → j < job.width → IsColumn job j after (get_or (shared_dicts new.dicts.items) j []) (get_or (codes_in new.codes.items) j [])
  column j lt =
      let dict = get_or (shared_dicts old.dicts.items) j [] in
      let list = get_or (codes_in old.codes.items) j [] in
      let keys = staying_keys job j ++ dict in
      let was = h.columns j lt in
      let size : length (get_or (codes_in old.codes.items) j []) ≡ length (kept_rows job) =
      sym (length-map list (λ c. get_or keys c [])) ∙ ap (λ (l : List (List ℕ)). length l) was.coded.cells_are ∙ length-map kept (key_at j) in
      let low-list : All (λ p. p < length (get_or (codes_in old.codes.items) j [])) places = subst (λ n. All (λ p. p < n) places) (sym size) low in
      let coded : AreCoded (staying_keys job j ++ get_or (shared_dicts old.dicts.items) j []) (cells_at j after) (map (λ p. get_or (get_or (codes_in old.codes.items) j []) p 0) places) =
      subst (λ (cells : List (List ℕ)). AreCoded keys cells (map (λ p. get_or list p 0) places)) (moved-map (key_at j) kept no_row [] places low) (moved-coded keys (cells_at j kept) list places was.coded low-list) in
      let moved_column : IsColumn job j after (get_or (shared_dicts old.dicts.items) j []) (map (λ p. get_or (get_or (codes_in old.codes.items) j []) p 0) places) =
      record { own = was.own ∙ own-moved (staying_keys job j) (cells_at j kept) (cells_at j after) (IsPermutation-map (key_at j) kept after permuted); coded = coded } in
      let codes-at : map (λ p. get_or (get_or (codes_in old.codes.items) j []) p 0) places ≡ get_or (codes_in new.codes.items) j [] =
      sym (ap (λ (l : List (List ℕ)). get_or l j []) codes ∙ get_or-map (λ (c : List ℕ). map (λ p. get_or c p 0) places) (codes_in old.codes.items) j [] [] (omega (arith, lt, size-codes))) in
      let dicts-at : get_or (shared_dicts old.dicts.items) j [] ≡ get_or (shared_dicts new.dicts.items) j [] = ap (λ ds. get_or (shared_dicts ds) j []) (sym dicts) in
      subst (λ (d : List (List ℕ)). IsColumn job j after d (get_or (codes_in new.codes.items) j [])) dicts-at
      (subst (λ (c : List ℕ). IsColumn job j after dict c) codes-at moved_column)

  moved-rows : AreNewRows job after new
  moved-rows = record {
    places =
        IsPermutation-trans (kept_olds job) old.olds.items new.olds.items h.places
        (subst (λ (l : List Old). IsPermutation old.olds.items l) (sym olds)
        (moved-permutes old.olds.items (Closed 0) places (subst (λ n. IsPermutation (range_with_len 0 n) places) (size-ids ∙ sym size-olds) there)));
    in_place = λ other. absurd (other e);
    rows_are =
        ap (λ (l : List Old). map (row_of job) l) olds ∙ sym (moved-map (row_of job) old.olds.items (Closed 0) no_row places low-olds)
        ∙ ap (λ (l : List KeyRow). map (λ p. get_or l p no_row) places) h.rows_are;
    wide = All-permutation (λ row. length row.keys ≡ job.width) kept after permuted h.wide;
    ids_are = ids ∙ ap (λ (l : List ℕ). map (λ p. get_or l p 0) places) h.ids_are ∙ moved-map (λ row. row.id) kept no_row 0 places low;
    dicts_count = ap length dicts ∙ h.dicts_count;
    codes_count =
        sym (length-map new.codes.items (λ list. list.items)) ∙ ap (λ (l : List (List ℕ)). length l) codes
        ∙ length-map (codes_in old.codes.items) (λ (column : List ℕ). map (λ p. get_or column p 0) places) ∙ size-codes;
    columns = column;
  }

  pub resorted-new : AreNewRows job (new_rows job) new
  resorted-new = subst (λ (rows : List KeyRow). AreNewRows job rows new) same-rows moved-rows
