-- What a scan of the stages finds, in the order of the ids, is what a contract says.
use Rattle.std.proofs.Common.{◌≡◌, inl, inr, ℕ, suc, ◌+◌, ◌<◌, ◌≤◌, Bool, T, true, cond, ◌&&◌, nat_eq, List, [], ◌++◌, length, get_or, All, Option, Some, is_some, refl, sym, ◌∙◌, ap, subst, arith}
use Rattle.std.specs.Prelude.{slice_get}
use Rattle.std.specs.List.Sorted.{IsPermutation, IsNonDecreasingBy}
use Rattle.std.specs.Ordering.{nat_cmp}
use Rattle.std.specs.FinMap.{is_sorted}
use Rattle.std.proofs.lemmas.Bool.{cases_lt}
use Rattle.std.proofs.lemmas.List.Elements.{All-get_or, Contains-get_or}
use Rattle.std.proofs.lemmas.List.Sorted.{IsPermutation-sym, Contains-permutation, sum_by-IsPermutation}
use Rattle.std.proofs.lemmas.Option.{same_Some, slice_get_within}
use Rattle.ut_value.specs.declared.value.Column.{Column}
use Rattle.ut_plain.specs.declared.statement.Pred.{Pred}
use Rattle.ut_plain.specs.Condition.{meets}
use Rattle.ut_plain.proofs.BoolLemmas.{and_left, and_right, and_both}
use Rattle.ut_stamps.specs.declared.fates.Fate.{Fate}
use Rattle.ut_stamps.specs.declared.visibility.Stamp.{Stamp}
use Rattle.ut_stamps.specs.declared.place.Place.{Place}
use Rattle.ut_stamps.specs.declared.place.Place.TheVariants.{L1, L2, Closed, Main}
use Rattle.ut_stamps.specs.Stamps.{sees}
use Rattle.ut_l2.specs.KeyRows.{KeyRow, no_row}
use Rattle.ut_key.specs.declared.comparison.ColumnPred.{ColumnPred}
use Rattle.ut_scan.specs.declared.place.Found.{Found}
use Rattle.ut_scan.specs.Finds.{passes, found_at, is_hit, found_in}
use Rattle.ut_stamps.specs.StampLists.{no_stamp}
use Rattle.ut_exact.specs.Places.{StagedRow}
use Rattle.ut_exact.specs.Scan.{IsScan}
use Rattle.ut_plain.specs.Compiled.{Compiles}
use Rattle.ut_table.specs.Decoded.{decoded_row}
use Rattle.ut_table.specs.Contents.{held}
use Rattle.ut_table.specs.Finds.{SeenOnce, Finds, hits_of, AreThere}
use Rattle.ut_table.specs.Kept.{IsHeld}
use Rattle.ut_staged.specs.Staged.{Staged, row_at, stamped_row}
use Rattle.ut_table.proofs.StampedLemmas.{held-length, held-at}
use Rattle.ut_table.proofs.CompiledLemmas.{passes-compiled}
use Rattle.ut_table.proofs.OrderLemmas.{In, In-contains, contains-In, count_id, rising, find-in, found-in}
use Rattle.ut_table.proofs.PartLemmas.{In-append, In-left, In-right, count_id-append, In-part, part-In, part-once}

-- the stages by numbers
abbrev pub stage_of : Place → ℕ
stage_of (L1 i) = 1
stage_of (L2 i) = 0
stage_of (Closed i) = 2
stage_of (Main p i) = 3 + p

-- places that number n of a stage is made of
pub record AreIn (place : ℕ → Place) (n : ℕ) : Type 0 where
  pub stage : (i : ℕ) → stage_of (place i) ≡ n
  pub once : (i j : ℕ) → place i ≡ place j → i ≡ j
  pub all : (p : Place) → stage_of p ≡ n → (i : ℕ) × (place i ≡ p)

-- rows of keys and their stamps are those of a stage
pub record IsStage (columns : List Column) (s : Staged) (place : ℕ → Place) (rows : List KeyRow) (stamps : List Stamp) : Type 0 where
  pub rows_held : All (IsHeld columns) rows
  pub stamped : length stamps ≡ length rows
  pub reads : (i : ℕ) → row_at s (place i) ≡ slice_get (held columns rows stamps) i

module _ (fates : List Fate) (snapshot : ℕ) (own : Option ℕ) (columns : List Column) (asked : List Pred) (preds : List ColumnPred) (compiles : Compiles columns asked preds) (s : Staged) where
  abbrev pub good : StagedRow → Bool
  good row = meets columns asked row.values && sees fates snapshot own row.stamp

  -- the seen rows of the stages from one on and up to another that meet the comparisons, each once
  pub record Covers (from to : ℕ) (fs : List Found) : Type 0 where
    pub shown : (g : Found) → In g fs → (row : StagedRow) × (row_at s g.place ≡ Some row) × (row.id ≡ g.id) × (good row ≡ true) × (from ≤ stage_of g.place) × (stage_of g.place < to)
    pub all : (p : Place) (row : StagedRow) → from ≤ stage_of p → stage_of p < to → row_at s p ≡ Some row → good row ≡ true → In (record { id = row.id; place = p }) fs
    pub single : (id : ℕ) → count_id id fs ≤ 1

  -- one stage
  module _ (place : ℕ → Place) (n : ℕ) (is_in : AreIn place n) (rows : List KeyRow) (stamps : List Stamp) (h : IsStage columns s place rows stamps) where
    abbrev found : ℕ → Found
    found i = found_at place rows i

    abbrev test : ℕ → Bool
    test i = is_hit fates snapshot own preds rows stamps i

    abbrev found_here : List Found
    found_here = found_in fates snapshot own preds place rows stamps

    -- the row at a place, and what the scan takes for it
    record IsAt (i : ℕ) : Type 0 where
      row : StagedRow
      is : row_at s (place i) ≡ Some row
      gives : found i ≡ record { id = row.id; place = place i }
      tells : test i ≡ good row

    at : (i : ℕ) → i < length rows → IsAt i
    at i lt =
        let k = get_or rows i no_row in
        let is_held : IsHeld columns (get_or rows i no_row) = All-get_or (IsHeld columns) rows i no_row lt h.rows_held in
        record {
          row = stamped_row (get_or stamps i no_stamp) (decoded_row columns k);
          is = h.reads i ∙ held-at columns rows stamps i h.stamped lt;
          gives = refl;
          tells = ap (λ x. passes preds x && sees fates snapshot own (get_or stamps i no_stamp)) (sym is_held.keys)
              ∙ ap (λ b. b && sees fates snapshot own (get_or stamps i no_stamp)) (passes-compiled columns (decoded_row columns k) is_held.fit asked preds compiles);
        }

    within : (i : ℕ) (row : StagedRow) → row_at s (place i) ≡ Some row → i < length rows
    within i row e = omega (arith, slice_get_within (held columns rows stamps) i row (sym (h.reads i) ∙ e), held-length columns rows stamps h.stamped)

    sound : (g : Found) → In g found_here → (i : ℕ) × (i < length rows) × (test i ≡ true) × (g ≡ found i)
    sound g in' = let r = In-part found test g 0 (length rows) in' in (r.0, omega (arith, r.2), r.3, r.4)

    complete : (i : ℕ) (row : StagedRow) → row_at s (place i) ≡ Some row → good row ≡ true → In (record { id = row.id; place = place i }) found_here
    complete i row e passes =
        let lt = within i row e in
        let a = at i lt in
        let row_is : a.row ≡ row = same_Some a.row row (sym a.is ∙ e) in
        subst (λ g. In g found_here) (a.gives ∙ (λ k. record { id = (row_is k).id; place = place i }))
        (part-In found test i 0 (length rows) (omega arith) (omega (arith, lt)) (a.tells ∙ ap good row_is ∙ passes))

    seen_good : (row : StagedRow) → good row ≡ true → sees fates snapshot own row.stamp ≡ true
    seen_good row e = and_right (meets columns asked row.values) (sees fates snapshot own row.stamp) e

    pub Covers-stage : SeenOnce s fates snapshot own → Covers n (suc n) found_here
    Covers-stage once = record {
      shown = λ g in'.
          let r = sound g in' in
          let a = at r.0 r.1 in
          let is : g ≡ record { id = a.row.id; place = place r.0 } = r.3 ∙ a.gives in
          let stage : stage_of g.place ≡ n = ap (λ (x : Found). stage_of x.place) is ∙ is_in.stage r.0 in
          (a.row, ap (λ (x : Found). row_at s x.place) is ∙ a.is, ap (λ (x : Found). x.id) (sym is), sym a.tells ∙ r.2, omega (arith, stage), omega (arith, stage));
      all = λ p row lo hi e passes.
          let q = is_in.all p (omega (arith, lo, hi)) in
          subst (λ x. In (record { id = row.id; place = x }) found_here) q.1 (complete q.0 row (ap (row_at s) q.1 ∙ e) passes);
      single = λ id. part-once found test (length rows)
          (λ i j li lj ti tj e.
          let a = at i li in
          let b = at j lj in
          is_in.once i j (once.each (place i) (place j) a.row b.row a.is b.is (seen_good a.row (sym a.tells ∙ ti)) (seen_good b.row (sym b.tells ∙ tj))
          (ap (λ (x : Found). x.id) (sym a.gives) ∙ e ∙ ap (λ (x : Found). x.id) b.gives)))
          id 0 (length rows) (omega arith);
    }

  -- no rows
  pub Covers-none : (from to : ℕ) → ((p : Place) (row : StagedRow) → from ≤ stage_of p → stage_of p < to → row_at s p ≡ Some row → ⊥) → Covers from to []
  Covers-none from to none = record {
    shown = λ g in'. absurd in';
    all = λ p row lo hi e passes. absurd (none p row lo hi e);
    single = λ id. omega arith;
  }

  pub Covers-append : SeenOnce s fates snapshot own → (a b c : ℕ) (fs gs : List Found) → a ≤ b → b ≤ c → Covers a b fs → Covers b c gs → Covers a c (fs ++ gs)
  Covers-append once a b c fs gs ab bc x y = record {
    shown = λ g in'. elim (In-append g fs gs in') [
      | inl here ↦ let r = x.shown g here in (r.0, r.1, r.2, r.3, r.4, omega (arith, r.5))
      | inr there ↦ let r = y.shown g there in (r.0, r.1, r.2, r.3, omega (arith, r.4), r.5)
    ];
    all = λ p row lo hi e passes. elim (cases_lt (stage_of p) b) [
      | inl lt ↦ In-left (record { id = row.id; place = p }) fs gs (x.all p row lo lt e passes)
      | inr le ↦ In-right (record { id = row.id; place = p }) fs gs (y.all p row le hi e passes)
    ];
    single = λ id. count_id-append id fs gs (x.single id) (y.single id) (λ f g in_f in_g same.
        let r = x.shown f in_f in
        let q = y.shown g in_g in
        let place : f.place ≡ g.place = once.each f.place g.place r.0 q.0 r.1 q.1
        (and_right (meets columns asked (r.0).values) (sees fates snapshot own (r.0).stamp) r.3) (and_right (meets columns asked (q.0).values) (sees fates snapshot own (q.0).stamp) q.3)
        (r.2 ∙ same ∙ sym q.2) in
        omega (arith, ap stage_of place, r.5, q.4));
  }

  module _ (to : ℕ) (fs list : List Found) (c : Covers 0 to fs) (ends : (p : Place) (row : StagedRow) → row_at s p ≡ Some row → stage_of p < to) (rows : IsPermutation fs list) (up : IsNonDecreasingBy (λ (f : Found). f.id) list) where
    ordered : T (is_sorted nat_cmp (hits_of list))
    ordered = rising list up (λ id. subst (λ n. n ≤ 1) (sym (sum_by-IsPermutation (λ (f : Found). cond (nat_eq f.id id) 1 0) fs list rows)) (c.single id))

    -- all stages, in the order of the ids
    pub finds-scan : IsScan (λ n p. row_at s p) 0 fates snapshot own (meets columns asked) (hits_of list)
    finds-scan = record {
      sorted = ordered;
      sound = λ id p e.
          let g : Found = record { id = id; place = p } in
          let in' = contains-In g fs (Contains-permutation list fs g (IsPermutation-sym fs list rows) (In-contains g list (found-in list id p e))) in
          let r = c.shown g in' in
          (r.0, r.1, r.2, and_right (meets columns asked (r.0).values) (sees fates snapshot own (r.0).stamp) r.3, and_left (meets columns asked (r.0).values) (sees fates snapshot own (r.0).stamp) r.3);
      complete = λ p row e seen passes.
          let g : Found = record { id = row.id; place = p } in
          find-in list g ordered
          (contains-In g list (Contains-permutation fs list g rows (In-contains g fs (c.all p row (omega arith) (ends p row e) e (and_both (meets columns asked row.values) (sees fates snapshot own row.stamp) passes seen)))));
    }

-- a row stands at each place that was found
pub are-there : (s : Staged) (fates : List Fate) (snapshot : ℕ) (own : Option ℕ) (preds : List Pred) (list : List Found) → Finds s fates snapshot own preds list → AreThere s list
are-there s fates snapshot own preds list h = λ k d lt.
    let g = get_or list k d in
    let r = h.scan.sound g.id g.place (find-in list g h.scan.sorted (contains-In g list (Contains-get_or list k d lt))) in
    ap is_some r.1
