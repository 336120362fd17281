-- The stages that a table lends to a scan are those that a contract sees.
use Rattle.std.proofs.Common.{◌≡◌, ℕ, zero, suc, ◌+◌, ◌<◌, ◌≤◌, List, [], length, map, get_or, Option, None, Some, unwrap_or, refl, sym, ◌∙◌, ap, subst, arith}
use Rattle.std.specs.Prelude.{slice_get, IsSome}
use Rattle.std.specs.Option.{option_map}
use Rattle.std.specs.List.{flat_map, range_with_len}
use Rattle.std.specs.List.Sorted.{IsPermutation, IsNonDecreasingBy}
use Rattle.std.proofs.lemmas.List.{length-map}
use Rattle.std.proofs.lemmas.List.Sorted.{length_permutation}
use Rattle.ut_plain.specs.declared.statement.Pred.{Pred}
use Rattle.ut_stamps.specs.declared.fates.Fate.{Fate}
use Rattle.ut_stamps.specs.declared.place.Place.{Place}
use Rattle.ut_stamps.specs.declared.place.Place.TheVariants.{L1, L2, Closed, Main}
use Rattle.ut_exact.specs.Places.{StagedRow}
use Rattle.ut_l2.specs.KeyRows.{keyed}
use Rattle.ut_key.specs.declared.comparison.ColumnPred.{ColumnPred}
use Rattle.ut_scan.specs.declared.place.Found.{Found}
use Rattle.ut_scan.specs.StageRows.{StageRows, found_rows, found_in_part}
use Rattle.ut_staged.specs.Staged.{Staged, row_at, row_in}
use Rattle.ut_plain.specs.Compiled.{Compiles}
use Rattle.ut_table.specs.Contents.{Contents, PendingValue, closed_rows, stamped_rows, held, staged}
use Rattle.ut_table.specs.Finds.{SeenOnce, Counts, Finds}
use Rattle.ut_table.specs.Kept.{IsTable}
use Rattle.ut_table.proofs.DecodedLemmas.{decoded_rows-keyed, All-keyed}
use Rattle.ut_table.proofs.StampedLemmas.{parts-same, part-at}
use Rattle.ut_table.proofs.PlaceLemmas.{closed-lengths, place-within, part-there, rows-held}
use Rattle.ut_table.proofs.SortLemmas.{ordered}
use Rattle.ut_table.proofs.FindsLemmas.{AreIn, IsStage, stage_of, Covers, Covers-stage, Covers-none, Covers-append, finds-scan}

-- ---- the places of each stage

in-l2 : AreIn L2 0
in-l2 = record { stage = λ i. refl; once = same; all = all }
  where
    same : (i j : ℕ) → L2 i ≡ L2 j → i ≡ j
    same i j e = cc

    all : (p : Place) → stage_of p ≡ 0 → (i : ℕ) × (L2 i ≡ p)
    all (L1 i) e = absurd (omega (arith, e))
    all (L2 i) e = (i, refl)
    all (Closed i) e = absurd (omega (arith, e))
    all (Main p i) e = absurd (omega (arith, e))

in-l1 : AreIn L1 1
in-l1 = record { stage = λ i. refl; once = same; all = all }
  where
    same : (i j : ℕ) → L1 i ≡ L1 j → i ≡ j
    same i j e = cc

    all : (p : Place) → stage_of p ≡ 1 → (i : ℕ) × (L1 i ≡ p)
    all (L1 i) e = (i, refl)
    all (L2 i) e = absurd (omega (arith, e))
    all (Closed i) e = absurd (omega (arith, e))
    all (Main p i) e = absurd (omega (arith, e))

in-closed : AreIn Closed 2
in-closed = record { stage = λ i. refl; once = same; all = all }
  where
    same : (i j : ℕ) → Closed i ≡ Closed j → i ≡ j
    same i j e = cc

    all : (p : Place) → stage_of p ≡ 2 → (i : ℕ) × (Closed i ≡ p)
    all (L1 i) e = absurd (omega (arith, e))
    all (L2 i) e = absurd (omega (arith, e))
    all (Closed i) e = (i, refl)
    all (Main p i) e = absurd (omega (arith, e))

in-part : (q : ℕ) → AreIn (Main q) (3 + q)
in-part q = record { stage = λ i. refl; once = same; all = all }
  where
    same : (i j : ℕ) → Main q i ≡ Main q j → i ≡ j
    same i j e = cc

    all : (p : Place) → stage_of p ≡ 3 + q → (i : ℕ) × (Main q i ≡ p)
    all (L1 i) e = absurd (omega (arith, e))
    all (L2 i) e = absurd (omega (arith, e))
    all (Closed i) e = absurd (omega (arith, e))
    all (Main p i) e = (i, ap (λ k. Main k i) (let is : q ≡ p = omega (arith, e) in is))

-- ---- all stages

-- the rows of a table as a scan takes them
abbrev pub rows_of : Contents → StageRows
rows_of t = record { l1 = map keyed t.l1; l2 = t.l2.rows; closed = option_map (λ (p : PendingValue). p.closed.rows) t.pending; parts = t.main.parts }

module _ {t : Contents} (h : IsTable t) where
  is-l2 : IsStage t.columns (staged t) L2 t.l2.rows t.stamps.l2.items
  is-l2 = record { rows_held = h.rows.l2; stamped = h.stamped.l2; reads = λ i. refl }

  is-l1 : IsStage t.columns (staged t) L1 (map keyed t.l1) t.stamps.l1.items
  is-l1 = record {
    rows_held = All-keyed t.columns t.l1 h.rows.l1;
    stamped = h.stamped.l1 ∙ sym (length-map t.l1 keyed);
    reads = λ i. ap (λ l. slice_get (stamped_rows l t.stamps.l1.items) i) (sym (decoded_rows-keyed t.columns t.l1 h.rows.l1));
  }

  is-closed : IsStage t.columns (staged t) Closed (closed_rows t.pending) (unwrap_or t.stamps.closed [])
  is-closed = record { rows_held = h.rows.closed; stamped = closed-lengths h; reads = λ i. by i t.pending }
    where
      by : (i : ℕ) (q : Option PendingValue) → row_in (option_map (λ (p : PendingValue). held t.columns p.closed.rows (unwrap_or t.stamps.closed [])) q) i ≡ slice_get (held t.columns (closed_rows q) (unwrap_or t.stamps.closed [])) i
      by i None = refl
      by i (Some p) = refl

  is-part : (p : ℕ) → p < length t.main.parts → IsStage t.columns (staged t) (Main p) (get_or t.main.parts p []) (get_or t.stamps.parts p [])
  is-part p lt = record {
    rows_held = rows-held h (Main p 0);
    stamped = parts-same t.columns t.main.parts t.stamps.parts p h.stamped.parts;
    reads = λ i. ap (λ o. row_in o i) (part-at t.columns t.main.parts t.stamps.parts p h.stamped.parts lt);
  }

  -- no stage is behind the last part
  last-stage : (p : Place) (row : StagedRow) → row_at (staged t) p ≡ Some row → stage_of p < 3 + length t.main.parts
  last-stage (L1 i) row e = omega arith
  last-stage (L2 i) row e = omega arith
  last-stage (Closed i) row e = omega arith
  last-stage (Main p i) row e = omega (arith, part-there t.main.parts p i (place-within h (Main p i) (subst IsSome (sym e) refl)))

  module _ (fates : List Fate) (snapshot : ℕ) (own : Option ℕ) (asked : List Pred) (preds : List ColumnPred) (compiles : Compiles t.columns asked preds) (once : SeenOnce (staged t) fates snapshot own) where
    abbrev there : ℕ → ℕ → List Found → Type 0
    there from to found = Covers fates snapshot own t.columns asked preds compiles (staged t) from to found

    covers-parts : (p n : ℕ) → p + n ≤ length t.main.parts → there (3 + p) (3 + (p + n)) (flat_map (found_in_part fates snapshot own preds t.main.parts t.stamps.parts) (range_with_len p n))
    covers-parts p zero le = Covers-none fates snapshot own t.columns asked preds compiles (staged t) (3 + p) (3 + (p + 0)) (λ q row lo hi e. absurd (omega (arith, lo, hi)))
    covers-parts p (suc n) le =
        let next : 3 + (p + 1) ≡ suc (3 + p) = omega arith in
        let end : 3 + (p + 1 + n) ≡ 3 + (p + suc n) = omega arith in
        let rest = covers-parts (p + 1) n (omega (arith, le)) in
        let found = flat_map (found_in_part fates snapshot own preds t.main.parts t.stamps.parts) (range_with_len (p + 1) n) in
        Covers-append fates snapshot own t.columns asked preds compiles (staged t) once (3 + p) (suc (3 + p)) (3 + (p + suc n)) _ found (omega arith) (omega arith)
        (Covers-stage fates snapshot own t.columns asked preds compiles (staged t) (Main p) (3 + p) (in-part p) (get_or t.main.parts p []) (get_or t.stamps.parts p []) (is-part p (omega (arith, le))) once)
        (subst (λ k. there k (3 + (p + suc n)) found) next (subst (λ k. there (3 + (p + 1)) k found) end rest))

    covers : there 0 (3 + length t.main.parts) (found_rows fates snapshot own preds (rows_of t) t.stamps)
    covers =
        let append = Covers-append fates snapshot own t.columns asked preds compiles (staged t) once in
        let stage = Covers-stage fates snapshot own t.columns asked preds compiles (staged t) in
        let first : 3 + 0 ≡ 3 = omega arith in
        let last : 3 + (0 + length t.main.parts) ≡ 3 + length t.main.parts = omega arith in
        let in_main = flat_map (found_in_part fates snapshot own preds t.main.parts t.stamps.parts) (range_with_len 0 (length t.main.parts)) in
        append 0 3 (3 + length t.main.parts) _ _ (omega arith) (omega arith)
        (append 0 2 3 _ _ (omega arith) (omega arith)
        (append 0 1 2 _ _ (omega arith) (omega arith) (stage L2 0 in-l2 t.l2.rows t.stamps.l2.items is-l2 once) (stage L1 1 in-l1 (map keyed t.l1) t.stamps.l1.items is-l1 once))
        (stage Closed 2 in-closed (closed_rows t.pending) (unwrap_or t.stamps.closed []) is-closed once))
        (subst (λ k. there 3 k in_main) last (subst (λ k. there k (3 + (0 + length t.main.parts)) in_main) first (covers-parts 0 (length t.main.parts) (omega arith))))

-- the answer of a scan, as the contract of a table says it
pub scan-finds : {t : Contents} (h : IsTable t) {s : Staged} (view : staged t ≡ s) (fates : List Fate) (snapshot : ℕ) (own : Option ℕ) (asked : List Pred) (preds : List ColumnPred) → Compiles t.columns asked preds → SeenOnce s fates snapshot own
    → (list : List Found) → IsPermutation (found_rows fates snapshot own preds (rows_of t) t.stamps) list → IsNonDecreasingBy (λ (f : Found). f.id) list → Finds s fates snapshot own asked list
scan-finds {t} h {s} view fates snapshot own asked preds compiles once list rows up =
    let before = subst (λ (x : Staged). SeenOnce x fates snapshot own) (sym view) once in
    subst (λ (x : Staged). Finds x fates snapshot own asked list) view
    (record { scan = finds-scan fates snapshot own t.columns asked preds compiles (staged t) (3 + length t.main.parts) _ list (covers h fates snapshot own asked preds compiles before) (last-stage h) rows up })

-- the answer of a count, as the contract of a table says it: some list in the order of the ids is what a scan finds
pub scan-counts : {t : Contents} (h : IsTable t) {s : Staged} (view : staged t ≡ s) (fates : List Fate) (snapshot : ℕ) (own : Option ℕ) (asked : List Pred) (preds : List ColumnPred) → Compiles t.columns asked preds → SeenOnce s fates snapshot own
    → (count : ℕ) → count ≡ length (found_rows fates snapshot own preds (rows_of t) t.stamps) → Counts s fates snapshot own asked count
scan-counts {t} h {s} view fates snapshot own asked preds compiles once count is =
    let rows = found_rows fates snapshot own preds (rows_of t) t.stamps in
    let r = ordered (λ (f : Found). f.id) rows in
    record { found = r.list; finds = scan-finds h view fates snapshot own asked preds compiles once r.list r.same r.up; all = is ∙ sym (length_permutation rows r.list r.same) }
