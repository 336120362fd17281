-- What the lists of a table tell of the stages that a contract sees.
use Rattle.std.proofs.Common.{◌≡◌, ℕ, ◌+◌, ◌<◌, ◌≤◌, ◌^◌, List, [], length, map, get_or, Option, None, Some, unwrap_or, All, IsTrue, refl, sym, ◌∙◌, ap, subst, arith}
use Rattle.std.specs.Prelude.{IsSome}
use Rattle.std.specs.Option.{option_map}
use Rattle.std.specs.List.{list_all}
use Rattle.std.proofs.lemmas.List.{length-map, get_or-map}
use Rattle.std.proofs.lemmas.List.Elements.{All-get_or}
use Rattle.ut_value.specs.declared.value.Row.{Row}
use Rattle.ut_value.specs.declared.value.Column.{Column}
use Rattle.ut_value.specs.KeyBytes.{is_value}
use Rattle.ut_plain.specs.Tables.{fits_columns}
use Rattle.ut_stamps.specs.declared.place.Place.{Place}
use Rattle.ut_stamps.specs.declared.place.Place.TheVariants.{L1, L2, Closed, Main}
use Rattle.ut_stamps.specs.StampLists.{IsPlace, stamp_at}
use Rattle.ut_exact.specs.Places.{StagedRow}
use Rattle.ut_l2.specs.KeyRows.{KeyRow, keyed, no_row}
use Rattle.ut_l2.specs.Delta.{Delta}
use Rattle.ut_main.specs.Parts.{PartValue, dicts_behind, first_parts}
use Rattle.ut_main.proofs.MainLemmas.{length-dicts_behind}
use Rattle.ut_staged.specs.Staged.{Staged, row_at, count_of}
use Rattle.ut_table.specs.Decoded.{decoded_keys, decoded_row}
use Rattle.ut_table.specs.Contents.{Contents, PendingValue, closed_rows, held, staged}
use Rattle.ut_table.specs.Kept.{IsRow, IsTable, HoldsRow, IsStage}
use Rattle.ut_table.proofs.DecodedLemmas.{fits-length, decoded_row-keyed}
use Rattle.ut_table.proofs.StampedLemmas.{stamped_rows-length, held-length}
use Rattle.ut_table.proofs.PlaceLemmas.{key_rows, number_of, key_row_at, read_at, part-there, closed-lengths, stamps-place, row-held, place-within, is-read}

module _ {t : Contents} (h : IsTable t) {s : Staged} (view : staged t ≡ s) where
  pub l1-count : length t.l1 ≡ length s.l1
  l1-count = sym (stamped_rows-length t.l1 t.stamps.l1.items h.stamped.l1) ∙ ap (λ (x : Staged). length x.l1) view

  pub l2-count : length t.l2.rows ≡ length s.l2
  l2-count = sym (held-length t.columns t.l2.rows t.stamps.l2.items h.stamped.l2) ∙ ap (λ (x : Staged). length x.l2) view

  closed-count : length (closed_rows t.pending) ≡ length (unwrap_or s.closed [])
  closed-count = by t.pending (closed-lengths h) ∙ ap (λ (x : Staged). length (unwrap_or x.closed [])) view
    where
      by : (q : Option PendingValue) → length (unwrap_or t.stamps.closed []) ≡ length (closed_rows q) → length (closed_rows q) ≡ length (unwrap_or (option_map (λ (p : PendingValue). held t.columns p.closed.rows (unwrap_or t.stamps.closed [])) q) [])
      by None e = refl
      by (Some p) e = sym (held-length t.columns p.closed.rows (unwrap_or t.stamps.closed []) e)

  pub counts : length t.l1 + length t.l2.rows + length (closed_rows t.pending) ≡ count_of s
  counts = λ i. l1-count i + l2-count i + closed-count i

  pub few-staged : count_of s ≤ 2 ^ 31
  few-staged = omega (arith, counts, h.few)

  pub columns-are : t.columns ≡ s.columns
  columns-are = ap (λ (x : Staged). x.columns) view

  -- ---- a place

  pub within : (p q : Place) → p ≡ q → IsSome (row_at s p) → number_of q < length (key_rows t q)
  within p q same some = place-within h q (subst (λ (x : Staged). IsSome (row_at x q)) (sym view) (subst (λ r. IsSome (row_at s r)) same some))

  read : (p q : Place) (row : StagedRow) → p ≡ q → row_at s p ≡ Some row → row ≡ read_at t q
  read p q row same e = is-read h q row (ap (λ (x : Staged). row_at x q) view ∙ ap (row_at s) (sym same) ∙ e)

  pub is-place : (p : Place) → IsSome (row_at s p) → IsPlace t.stamps p
  is-place p some = stamps-place h p (within p p refl some)

  pub stamp-is : (p : Place) (row : StagedRow) → row_at s p ≡ Some row → stamp_at t.stamps p ≡ row.stamp
  stamp-is p row e = ap (λ (r : StagedRow). r.stamp) (sym (read p p row refl e))

  -- a row of the first stage

  pub l1-within : (p : Place) (i : ℕ) → p ≡ L1 i → IsSome (row_at s p) → i < length t.l1
  l1-within p i same some = omega (arith, within p (L1 i) same some, length-map t.l1 keyed)

  pub l1-row : (p : Place) (i : ℕ) (r : Row) → p ≡ L1 i → IsSome (row_at s p) → r ≡ get_or t.l1 i r → IsRow s.columns r
  l1-row p i r same some is =
      subst (λ cs. IsRow cs r) columns-are (subst (IsRow t.columns) (sym is) (All-get_or (IsRow t.columns) t.l1 i r (l1-within p i same some) h.rows.l1))

  pub l1-values : (p : Place) (i : ℕ) (r : Row) (row : StagedRow) → p ≡ L1 i → r ≡ get_or t.l1 i r → row_at s p ≡ Some row → r.values ≡ row.values
  l1-values p i r row same is e =
      let lt = l1-within p i same (subst IsSome (sym e) refl) in
      let key : get_or (map keyed t.l1) i no_row ≡ keyed r = get_or-map keyed t.l1 i r no_row lt ∙ ap keyed (sym is) in
      let fits : IsRow t.columns r = subst (IsRow t.columns) (sym is) (All-get_or (IsRow t.columns) t.l1 i r lt h.rows.l1) in
      ap (λ (x : Row). x.values) (sym (ap (decoded_row t.columns) key ∙ decoded_row-keyed t.columns r fits)) ∙ ap (λ (x : StagedRow). x.values) (sym (read p (L1 i) row same e))

  -- a row that is held by its keys

  pub holds-row : (p q : Place) (width : ℕ) → p ≡ q → width ≡ length t.columns → IsSome (row_at s p) → HoldsRow s.columns width (key_rows t q) (number_of q)
  holds-row p q width same wide some =
      let lt = within p q same some in
      subst (λ cs. HoldsRow cs width (key_rows t q) (number_of q)) columns-are (record { narrow = h.rows.narrow; wide = wide; place = lt; held = row-held h q lt })

  pub held-values : (p q : Place) (row : StagedRow) → p ≡ q → row_at s p ≡ Some row → decoded_keys s.columns (key_row_at t q).keys ≡ row.values
  held-values p q row same e = ap (λ cs. decoded_keys cs (key_row_at t q).keys) (sym columns-are) ∙ ap (λ (x : StagedRow). x.values) (sym (read p q row same e))

  -- the same of a delta, and of a part

  pub l2-row : (p : Place) (i : ℕ) (d : Delta) → p ≡ L2 i → d ≡ t.l2 → IsSome (row_at s p) → HoldsRow s.columns d.width d.rows i
  l2-row p i d same d_is some = subst (λ (x : Delta). HoldsRow s.columns x.width x.rows i) (sym d_is) (holds-row p (L2 i) t.l2.width same h.rows.l2_wide some)

  pub l2-values : (p : Place) (i : ℕ) (d : Delta) (row : StagedRow) → p ≡ L2 i → d ≡ t.l2 → row_at s p ≡ Some row → decoded_keys s.columns (get_or d.rows i no_row).keys ≡ row.values
  l2-values p i d row same d_is e = ap (λ (x : Delta). decoded_keys s.columns (get_or x.rows i no_row).keys) d_is ∙ held-values p (L2 i) row same e

  -- a merge is pending where a row stands in the closed stage
  pub closed-pending : (p : Place) (i : ℕ) → p ≡ Closed i → IsSome (row_at s p) → (q : PendingValue) × (t.pending ≡ Some q)
  closed-pending p i same some = by t.pending refl (within p (Closed i) same some)
    where
      by : (o : Option PendingValue) → t.pending ≡ o → i < length (closed_rows t.pending) → (q : PendingValue) × (t.pending ≡ Some q)
      by None is lt = absurd (omega (arith, lt, ap (λ (o : Option PendingValue). length (closed_rows o)) is))
      by (Some q) is lt = (q, is)

  pub closed-row : (p : Place) (i : ℕ) (q : PendingValue) (d : Delta) → p ≡ Closed i → t.pending ≡ Some q → d ≡ q.closed → IsSome (row_at s p) → HoldsRow s.columns d.width d.rows i
  closed-row p i q d same is d_is some =
      let rows : closed_rows t.pending ≡ d.rows = ap closed_rows is ∙ ap (λ (x : Delta). x.rows) (sym d_is) in
      subst (λ rs. HoldsRow s.columns d.width rs i) rows (holds-row p (Closed i) d.width same (ap (λ (x : Delta). x.width) d_is ∙ h.rows.closed_wide q is) some)

  pub closed-values : (p : Place) (i : ℕ) (q : PendingValue) (d : Delta) (row : StagedRow) → p ≡ Closed i → t.pending ≡ Some q → d ≡ q.closed → row_at s p ≡ Some row → decoded_keys s.columns (get_or d.rows i no_row).keys ≡ row.values
  closed-values p i q d row same is d_is e =
      let rows : d.rows ≡ closed_rows t.pending = ap (λ (x : Delta). x.rows) d_is ∙ sym (ap closed_rows is) in
      ap (λ (rs : List KeyRow). decoded_keys s.columns (get_or rs i no_row).keys) rows ∙ held-values p (Closed i) row same e

  pub part-within : (p : Place) (n i : ℕ) → p ≡ Main n i → IsSome (row_at s p) → n < length t.main.parts
  part-within p n i same some = part-there t.main.parts n i (within p (Main n i) same some)

  pub part-row : (p : Place) (n i : ℕ) (part : PartValue) → p ≡ Main n i → part.rows ≡ get_or t.main.parts n [] → part.before ≡ dicts_behind (first_parts n t.main) → IsSome (row_at s p) → HoldsRow s.columns (length part.before) part.rows i
  part-row p n i part same rows before some =
      subst (λ rs. HoldsRow s.columns (length part.before) rs i) (sym rows)
      (holds-row p (Main n i) (length part.before) same (ap length before ∙ length-dicts_behind (first_parts n t.main) ∙ h.rows.main_wide) some)

  pub part-values : (p : Place) (n i : ℕ) (part : PartValue) (row : StagedRow) → p ≡ Main n i → part.rows ≡ get_or t.main.parts n [] → row_at s p ≡ Some row → decoded_keys s.columns (get_or part.rows i no_row).keys ≡ row.values
  part-values p n i part row same rows e = ap (λ (rs : List KeyRow). decoded_keys s.columns (get_or rs i no_row).keys) rows ∙ held-values p (Main n i) row same e

  -- ---- rows that are to enter

  -- the second stage is one under the table's columns
  pub l2-stage : (columns : List Column) (d : Delta) → columns ≡ t.columns → d ≡ t.l2 → IsStage columns d
  l2-stage columns d same is = subst (λ cs. IsStage cs d) (sym same) (subst (IsStage t.columns) (sym is) (record { narrow = h.rows.narrow; wide = h.rows.l2_wide; rows = h.rows.l2 }))

  pub row-is : (row : Row) → IsTrue (fits_columns s.columns row.values) → IsTrue (list_all is_value row.values) → IsRow t.columns row
  row-is row fits kept = record { fits = subst (λ cs. IsTrue (fits_columns cs row.values)) (sym columns-are) fits; kept = kept }

  pub rows-are : (rows : List Row) → All (λ (r : Row). IsTrue (fits_columns s.columns r.values)) rows → All (λ (r : Row). IsTrue (list_all is_value r.values)) rows → All (IsRow t.columns) rows
  rows-are rows fit kept = λ k d lt. row-is (get_or rows k d) (fit k d lt) (kept k d lt)

  pub rows-wide : (rows : List Row) → All (IsRow t.columns) rows → All (λ (r : Row). length r.values ≡ t.l2.width) rows
  rows-wide rows are = λ k d lt. fits-length t.columns (get_or rows k d).values (are k d lt).fits ∙ sym h.rows.l2_wide
