-- What a table keeps, as its stages change.
use Rattle.std.proofs.Common.{◌≡◌, ℕ, ◌+◌, ◌<◌, ◌≤◌, ◌^◌, List, [], ◌∷◌, ◌++◌, length, map, take, drop, min, replicate, unwrap_or, All, sym, ◌∙◌, ap, subst, arith}
use Rattle.std.specs.Option.{option_map}
use Rattle.std.proofs.lemmas.List.{length-append, length-map, length-take-le, length-drop, length-replicate, take_min, drop_min}
use Rattle.std.proofs.lemmas.List.Elements.{All-append, All-push, All-take, All-drop}
use Rattle.ut_value.specs.declared.value.Column.{Column}
use Rattle.ut_value.specs.declared.value.Row.{Row}
use Rattle.ut_stamps.specs.declared.visibility.Stamp.{Stamp}
use Rattle.ut_l2.specs.KeyRows.{KeyRow, keyed}
use Rattle.ut_l2.specs.Delta.{Delta}
use Rattle.ut_stamps.specs.StampLists.{StampLists}
use Rattle.ut_staged.specs.Staged.{Staged, stamped_row, entered_l1, entered_l2, merged_l1}
use Rattle.ut_table.specs.Contents.{Contents, PendingValue, closed_rows, stamped_rows, held, held_parts, staged}
use Rattle.ut_table.specs.Kept.{IsRow, IsHeld, IsTable}
use Rattle.ut_table.proofs.DecodedLemmas.{decoded_rows-keyed, All-keyed}
use Rattle.ut_table.proofs.StampedLemmas.{stamped_rows-append, stamped_rows-take, stamped_rows-drop, stamped_rows-same, held-append}

-- rows that enter are held as their keys
held-keyed : (columns : List Column) (rows : List Row) (stamps : List Stamp) → All (IsRow columns) rows → held columns (map keyed rows) stamps ≡ stamped_rows rows stamps
held-keyed columns rows stamps fit = ap (λ l. stamped_rows l stamps) (decoded_rows-keyed columns rows fit)

-- the rows and stamps of both deltas that stand there now; the closed stage and main stay
pub record IsChange (t : Contents) (l1 : List Row) (l2 : List KeyRow) (stamps1 stamps2 : List Stamp) (new1 : List Row) (new2 : Delta) (news : StampLists) : Type 0 where
  pub l1_rows : new1 ≡ l1
  pub width : new2.width ≡ t.l2.width
  pub l2_rows : new2.rows ≡ l2
  pub l1_stamps : news.l1.items ≡ stamps1
  pub l2_stamps : news.l2.items ≡ stamps2
  pub closed : news.closed ≡ t.stamps.closed
  pub parts : news.parts ≡ t.stamps.parts

module _ {t : Contents} (h : IsTable t) where
  module _ {rows1 : List Row} {rows2 : List KeyRow} {stamps1 stamps2 : List Stamp} {new1 : List Row} {new2 : Delta} {news : StampLists} (c : IsChange t rows1 rows2 stamps1 stamps2 new1 new2 news) where
    changed-stages : staged (record t { l1 = new1; l2 = new2; stamps = news }) ≡ record (staged t) { l1 = stamped_rows rows1 stamps1; l2 = held t.columns rows2 stamps2 }
    changed-stages = λ i. record {
      columns = t.columns;
      l1 = stamped_rows (c.l1_rows i) (c.l1_stamps i);
      l2 = held t.columns (c.l2_rows i) (c.l2_stamps i);
      closed = option_map (λ (p : PendingValue). held t.columns p.closed.rows (unwrap_or (c.closed i) [])) t.pending;
      parts = held_parts t.columns t.main.parts (c.parts i);
      keep = unwrap_or (option_map (λ (p : PendingValue). p.keep) t.pending) [];
      merge = option_map (λ (p : PendingValue). p.head) t.pending;
    }

    changed-kept : All (IsRow t.columns) rows1 → All (IsHeld t.columns) rows2 → length stamps1 ≡ length rows1 → length stamps2 ≡ length rows2 → length rows1 + length rows2 + length (closed_rows t.pending) ≤ 2 ^ 31 → IsTable (record t { l1 = new1; l2 = new2; stamps = news })
    changed-kept fit1 fit2 same1 same2 few = record {
      rows = record {
        narrow = h.rows.narrow;
        l1 = subst (All (IsRow t.columns)) (sym c.l1_rows) fit1;
        l2_wide = c.width ∙ h.rows.l2_wide;
        l2 = subst (All (IsHeld t.columns)) (sym c.l2_rows) fit2;
        closed_wide = h.rows.closed_wide;
        closed = h.rows.closed;
        main_wide = h.rows.main_wide;
        parts = h.rows.parts;
      };
      stamped = record {
        l1 = ap length c.l1_stamps ∙ same1 ∙ sym (ap length c.l1_rows);
        l2 = ap length c.l2_stamps ∙ same2 ∙ sym (ap length c.l2_rows);
        closed = ap (option_map length) c.closed ∙ h.stamped.closed;
        parts = ap (map length) c.parts ∙ h.stamped.parts;
      };
      job = h.job;
      few = omega (arith, ap length c.l1_rows, ap length c.l2_rows, few);
    }

  -- a row enters the first stage
  module _ (row : Row) (stamp : Stamp) {new1 : List Row} {new2 : Delta} {news : StampLists} (c : IsChange t (t.l1 ++ row ∷ []) t.l2.rows (t.stamps.l1.items ++ stamp ∷ []) t.stamps.l2.items new1 new2 news) where
    pub pushed-stages : staged (record t { l1 = new1; l2 = new2; stamps = news }) ≡ entered_l1 (stamped_row stamp row) (staged t)
    pushed-stages = changed-stages c ∙ ap (λ l. record (staged t) { l1 = l }) (stamped_rows-append t.l1 (row ∷ []) t.stamps.l1.items (stamp ∷ []) h.stamped.l1)

    pub pushed-kept : IsRow t.columns row → length t.l1 + length t.l2.rows + length (closed_rows t.pending) < 2 ^ 31 → IsTable (record t { l1 = new1; l2 = new2; stamps = news })
    pushed-kept is few = changed-kept c (All-push (IsRow t.columns) t.l1 row h.rows.l1 is) h.rows.l2
        (omega (arith, length-append t.l1 (row ∷ []), length-append t.stamps.l1.items (stamp ∷ []), h.stamped.l1)) h.stamped.l2 (omega (arith, length-append t.l1 (row ∷ []), few))

  -- rows enter the second stage
  module _ (rows : List Row) (stamp : Stamp) (fit : All (IsRow t.columns) rows) {new1 : List Row} {new2 : Delta} {news : StampLists} (c : IsChange t t.l1 (t.l2.rows ++ map keyed rows) t.stamps.l1.items (t.stamps.l2.items ++ replicate (length rows) stamp) new1 new2 news) where
    pub loaded-stages : staged (record t { l1 = new1; l2 = new2; stamps = news }) ≡ entered_l2 (map (stamped_row stamp) rows) (staged t)
    loaded-stages = changed-stages c ∙ ap (λ l. record (staged t) { l2 = l })
        (held-append t.columns t.l2.rows (map keyed rows) t.stamps.l2.items (replicate (length rows) stamp) h.stamped.l2
        ∙ ap (λ l. held t.columns t.l2.rows t.stamps.l2.items ++ l) (held-keyed t.columns rows (replicate (length rows) stamp) fit ∙ stamped_rows-same rows stamp))

    pub loaded-kept : length t.l1 + length t.l2.rows + length (closed_rows t.pending) + length rows ≤ 2 ^ 31 → IsTable (record t { l1 = new1; l2 = new2; stamps = news })
    loaded-kept few =
        let more : length (t.l2.rows ++ map keyed rows) ≡ length t.l2.rows + length rows = length-append t.l2.rows (map keyed rows) ∙ ap (λ n. length t.l2.rows + n) (length-map rows keyed) in
        changed-kept c h.rows.l1 (All-append (IsHeld t.columns) t.l2.rows (map keyed rows) h.rows.l2 (All-keyed t.columns rows fit)) h.stamped.l1
        (omega (arith, length-append t.stamps.l2.items (replicate (length rows) stamp), length-replicate (length rows) stamp, more, h.stamped.l2)) (omega (arith, more, few))

  -- the first rows of the first stage go to the second
  module _ (n : ℕ) (within : n ≤ length t.l1) {new1 : List Row} {new2 : Delta} {news : StampLists} (c : IsChange t (drop n t.l1) (t.l2.rows ++ map keyed (take n t.l1)) (drop n t.stamps.l1.items) (t.stamps.l2.items ++ take n t.stamps.l1.items) new1 new2 news) where
    fit : All (IsRow t.columns) (take n t.l1)
    fit = All-take (IsRow t.columns) n t.l1 h.rows.l1

    pub merged-stages : staged (record t { l1 = new1; l2 = new2; stamps = news }) ≡ merged_l1 n (staged t)
    merged-stages = changed-stages c ∙ (λ i. record (staged t) {
      l1 = stamped_rows-drop n t.l1 t.stamps.l1.items h.stamped.l1 i;
      l2 = (held-append t.columns t.l2.rows (map keyed (take n t.l1)) t.stamps.l2.items (take n t.stamps.l1.items) h.stamped.l2
          ∙ ap (λ l. held t.columns t.l2.rows t.stamps.l2.items ++ l) (held-keyed t.columns (take n t.l1) (take n t.stamps.l1.items) fit ∙ stamped_rows-take n t.l1 t.stamps.l1.items)) i;
    })

    pub merged-kept : IsTable (record t { l1 = new1; l2 = new2; stamps = news })
    merged-kept =
        let taken : length (take n t.l1) ≡ n = length-take-le n t.l1 within in
        let stamps_taken : length (take n t.stamps.l1.items) ≡ n = length-take-le n t.stamps.l1.items (omega (arith, within, h.stamped.l1)) in
        let more : length (t.l2.rows ++ map keyed (take n t.l1)) ≡ length t.l2.rows + length (take n t.l1) = length-append t.l2.rows (map keyed (take n t.l1)) ∙ ap (λ k. length t.l2.rows + k) (length-map (take n t.l1) keyed) in
        changed-kept c (All-drop (IsRow t.columns) n t.l1 h.rows.l1) (All-append (IsHeld t.columns) t.l2.rows (map keyed (take n t.l1)) h.rows.l2 (All-keyed t.columns (take n t.l1) fit))
        (omega (arith, length-drop n t.stamps.l1.items, length-drop n t.l1, h.stamped.l1))
        (omega (arith, length-append t.stamps.l2.items (take n t.stamps.l1.items), stamps_taken, taken, more, h.stamped.l2))
        (omega (arith, length-drop n t.l1, taken, more, h.few, within))

-- to merge more rows than there are is to merge all
pub merged_l1-min : (n m : ℕ) (s : Staged) → m ≡ min n (length s.l1) → merged_l1 m s ≡ merged_l1 n s
merged_l1-min n m s e = ap (λ k. merged_l1 k s) e ∙ (λ i. record s { l1 = drop_min n s.l1 i; l2 = s.l2 ++ take_min n s.l1 i })
