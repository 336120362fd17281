-- A table that is shown has just the rows that were seen, each once.
use Rattle.std.proofs.Common.{◌≡◌, ℕ, inl, inr, Bool, true, false, List, [], ◌++◌, map, filter, Option, None, Some, refl, sym, ap, ◌∙◌, unwrap_or}
use Rattle.std.specs.Prelude.{slice_get}
use Rattle.ut_stamps.specs.declared.place.Place.{Place}
use Rattle.ut_stamps.specs.declared.place.Place.TheVariants.{L1, L2, Closed, Main}
use Rattle.ut_stamps.specs.Stamps.{sees}
use Rattle.ut_exact.specs.Places.{StagedRow}
use Rattle.ut_staged.specs.Staged.{Staged, row_in, row_at, no_rows}
use Rattle.ut_table.specs.Finds.{SeenOnce}
use Rattle.ut_shown.specs.Shown.{Eyes}
use Rattle.ut_shown.specs.Shown.{settled, shown_stamp, shown_row, is_seen, shown_part, outside, shown_stages}
use Rattle.ut_shown.proofs.ListLemmas.{none_some, some_same, get-mapped, get-map, get-append, get-front, get-back, get-filtered, get-filter, AreOnce, AreApart, once-append, once-filter}

-- one who has no transaction sees a row of a shot where it was seen
pub sees-shown : (seen : Bool) → sees settled 0 None (shown_stamp seen) ≡ seen
sees-shown true = refl
sees-shown false = refl

-- a table without rows
pub nowhere : (s : Staged) (q : Place) (r : StagedRow) → row_at (no_rows s.columns) q ≡ Some r → ⊥
nowhere s (L1 i) r is = none_some r is
nowhere s (L2 i) r is = none_some r is
nowhere s (Closed i) r is = none_some r is
nowhere s (Main p i) r is = none_some r is

module _ (l : Eyes) (s : Staged) where
  abbrev closed : List StagedRow
  closed = unwrap_or s.closed []

  -- ---- outside of main

  abbrev IsOutside : Place → Type 0
  IsOutside p = (n i : ℕ) → p ≡ Main n i → ⊥

  -- a row outside of main and its place
  pub record Stands (row : StagedRow) : Type 0 where
    pub place : Place
    pub at : row_at s place ≡ Some row
    pub away : IsOutside place

  closed-at : (i : ℕ) (row : StagedRow) → slice_get closed i ≡ Some row → row_at s (Closed i) ≡ Some row
  closed-at i row is = by s.closed is
    where
      by : (o : Option (List StagedRow)) → slice_get (unwrap_or o []) i ≡ Some row → row_in o i ≡ Some row
      by None h = absurd (none_some row h)
      by (Some list) h = h

  at-closed : (i : ℕ) (row : StagedRow) → row_at s (Closed i) ≡ Some row → slice_get closed i ≡ Some row
  at-closed i row is = by s.closed is
    where
      by : (o : Option (List StagedRow)) → row_in o i ≡ Some row → slice_get (unwrap_or o []) i ≡ Some row
      by None h = absurd (none_some row h)
      by (Some list) h = h

  stands-outside : (j : ℕ) (row : StagedRow) → slice_get (outside l s) j ≡ Some row → Stands row
  stands-outside j row is = elim (get-append closed (s.l2 ++ s.l1) j row is) [
    | inl x ↦ record { place = Closed j; at = closed-at j row x; away = λ n i e. cc }
    | inr x ↦ elim (get-append s.l2 s.l1 x.0 row x.2) [
      | inl y ↦ record { place = L2 x.0; at = y; away = λ n i e. cc }
      | inr y ↦ record { place = L1 y.0; at = y.2; away = λ n i e. cc }
    ]
  ]

  module _ (once : SeenOnce s l.fates l.snapshot l.own) where
    abbrev live : StagedRow → Bool
    live = is_seen l

    once-in : (rows : List StagedRow) (place : ℕ → Place) → ((i : ℕ) (row : StagedRow) → slice_get rows i ≡ Some row → row_at s (place i) ≡ Some row) → ((i j : ℕ) → place i ≡ place j → i ≡ j) → AreOnce live rows
    once-in rows place at one i j a b is_a is_b live_a live_b same = one i j (once.each (place i) (place j) a b (at i a is_a) (at j b is_b) live_a live_b same)

    l1_one : (i j : ℕ) → L1 i ≡ L1 j → i ≡ j
    l1_one i j e = cc

    l2_one : (i j : ℕ) → L2 i ≡ L2 j → i ≡ j
    l2_one i j e = cc

    closed_one : (i j : ℕ) → Closed i ≡ Closed j → i ≡ j
    closed_one i j e = cc

    deltas-apart : AreApart live s.l2 s.l1
    deltas-apart i j a b is_a is_b live_a live_b same = differ (once.each (L2 i) (L1 j) a b is_a is_b live_a live_b same)
      where
        differ : L2 i ≡ L1 j → ⊥
        differ e = cc

    closed-apart : AreApart live closed (s.l2 ++ s.l1)
    closed-apart i j a b is_a is_b live_a live_b same = elim (get-append s.l2 s.l1 j b is_b) [
      | inl y ↦ second (once.each (Closed i) (L2 j) a b (closed-at i a is_a) y live_a live_b same)
      | inr y ↦ first y.0 (once.each (Closed i) (L1 y.0) a b (closed-at i a is_a) y.2 live_a live_b same)
    ]
      where
        second : Closed i ≡ L2 j → ⊥
        second e = cc

        first : (k : ℕ) → Closed i ≡ L1 k → ⊥
        first k e = cc

    once-outside : AreOnce live (outside l s)
    once-outside =
        once-append live closed (s.l2 ++ s.l1) (once-in closed Closed closed-at closed_one)
        (once-append live s.l2 s.l1 (once-in s.l2 L2 (λ i row is. is) l2_one) (once-in s.l1 L1 (λ i row is. is) l1_one) deltas-apart) closed-apart

  -- ---- a row that is shown

  -- the row that it is, in its first place
  pub record Was (r : StagedRow) (IsPlace : Place → Type 0) : Type 0 where
    pub place : Place
    pub row : StagedRow
    pub at : row_at s place ≡ Some row
    pub seen : is_seen l row ≡ true
    pub same : r ≡ shown_row true row
    pub is_place : IsPlace place

  first-was : (i : ℕ) (r : StagedRow) → row_at (shown_stages l s) (L1 i) ≡ Some r → Was r IsOutside
  first-was i r is =
      let m = get-mapped (shown_row true) (filter (is_seen l) (outside l s)) i r is in
      let f = get-filtered (is_seen l) (outside l s) i m.0 m.1 in
      let o = stands-outside f.0 m.0 f.1 in
      record { place = o.place; row = m.0; at = o.at; seen = f.2; same = sym m.2; is_place = o.away }

  part-was : (n i : ℕ) (r : StagedRow) → row_at (shown_stages l s) (Main n i) ≡ Some r → sees settled 0 None r.stamp ≡ true → Was r (λ p. p ≡ Main n i)
  part-was n i r is seen = by (slice_get s.parts n) refl (slice_get (map (shown_part l) s.parts) n) refl is
    where
      of : (part : List StagedRow) → slice_get s.parts n ≡ Some part → slice_get (shown_part l part) i ≡ Some r → Was r (λ p. p ≡ Main n i)
      of part at here =
          let m = get-mapped (λ (row : StagedRow). shown_row (is_seen l row) row) part i r here in
          let passes : is_seen l m.0 ≡ true = sym (sees-shown (is_seen l m.0)) ∙ ap (λ (x : StagedRow). sees settled 0 None x.stamp) m.2 ∙ seen in
          record {
            place = Main n i;
            row = m.0;
            at = ap (λ o. row_in o i) at ∙ m.1;
            seen = passes;
            same = sym m.2 ∙ ap (λ b. shown_row b m.0) passes;
            is_place = refl;
          }

      by : (o : Option (List StagedRow)) → slice_get s.parts n ≡ o → (t : Option (List StagedRow)) → slice_get (map (shown_part l) s.parts) n ≡ t → row_in t i ≡ Some r → Was r (λ p. p ≡ Main n i)
      by o at None none h = absurd (none_some r h)
      by None at (Some list) some h = let m = get-mapped (shown_part l) s.parts n list some in absurd (none_some m.0 (sym at ∙ m.1))
      by (Some part) at (Some list) some h = of part at (ap (λ (x : List StagedRow). slice_get x i) (some_same (shown_part l part) list (sym (get-map (shown_part l) s.parts n part at) ∙ some)) ∙ h)

  pub was : (q : Place) (r : StagedRow) → row_at (shown_stages l s) q ≡ Some r → sees settled 0 None r.stamp ≡ true → Was r (λ p. Unit {0})
  was (L1 i) r is seen = let w = first-was i r is in record { place = w.place; row = w.row; at = w.at; seen = w.seen; same = w.same; is_place = tt }
  was (L2 i) r is seen = absurd (none_some r is)
  was (Closed i) r is seen = absurd (none_some r is)
  was (Main n i) r is seen = let w = part-was n i r is seen in record { place = w.place; row = w.row; at = w.at; seen = w.seen; same = w.same; is_place = tt }

  -- each row that is seen is shown
  from-outside : (j : ℕ) (row : StagedRow) → slice_get (outside l s) j ≡ Some row → is_seen l row ≡ true → (q : Place) × (row_at (shown_stages l s) q ≡ Some (shown_row true row))
  from-outside j row is seen =
      let f = get-filter (is_seen l) (outside l s) j row is seen in
      (L1 f.0, get-map (shown_row true) (filter (is_seen l) (outside l s)) f.0 row f.1)

  pub shows : (p : Place) (row : StagedRow) → row_at s p ≡ Some row → is_seen l row ≡ true → (q : Place) × (row_at (shown_stages l s) q ≡ Some (shown_row true row))
  shows (L1 i) row is seen =
      let one = get-back s.l2 s.l1 i row is in
      let two = get-back closed (s.l2 ++ s.l1) one.0 row one.1 in from-outside two.0 row two.1 seen
  shows (L2 i) row is seen = let two = get-back closed (s.l2 ++ s.l1) i row (get-front s.l2 s.l1 i row is) in from-outside two.0 row two.1 seen
  shows (Closed i) row is seen = from-outside i row (get-front closed (s.l2 ++ s.l1) i row (at-closed i row is)) seen
  shows (Main n i) row is seen = (Main n i, by (slice_get s.parts n) refl is)
    where
      by : (o : Option (List StagedRow)) → slice_get s.parts n ≡ o → row_in o i ≡ Some row → row_at (shown_stages l s) (Main n i) ≡ Some (shown_row true row)
      by None at h = absurd (none_some row h)
      by (Some part) at h =
          ap (λ o. row_in o i) (get-map (shown_part l) s.parts n part at)
          ∙ get-map (λ (x : StagedRow). shown_row (is_seen l x) x) part i row h ∙ ap (λ b. Some (shown_row b row)) seen

  -- ---- each once

  pub shown-once : SeenOnce s l.fates l.snapshot l.own → SeenOnce (shown_stages l s) settled 0 None
  shown-once once = record { each = each }
    where
      apart : (i n j : ℕ) (a b : StagedRow) → row_at (shown_stages l s) (L1 i) ≡ Some a → row_at (shown_stages l s) (Main n j) ≡ Some b → sees settled 0 None b.stamp ≡ true → a.id ≡ b.id → ⊥
      apart i n j a b is_a is_b sees_b same =
          let x = first-was i a is_a in
          let y = part-was n j b is_b sees_b in
          let ids : x.row.id ≡ y.row.id = ap (λ (r : StagedRow). r.id) (sym x.same) ∙ same ∙ ap (λ (r : StagedRow). r.id) y.same in
          x.is_place n j (once.each x.place y.place x.row y.row x.at y.at x.seen y.seen ids ∙ y.is_place)

      each : (p q : Place) (a b : StagedRow) → row_at (shown_stages l s) p ≡ Some a → row_at (shown_stages l s) q ≡ Some b → sees settled 0 None a.stamp ≡ true → sees settled 0 None b.stamp ≡ true → a.id ≡ b.id → p ≡ q
      each (L1 i) (L1 j) a b is_a is_b sees_a sees_b same =
          let rows = filter (is_seen l) (outside l s) in
          let x = get-mapped (shown_row true) rows i a is_a in
          let y = get-mapped (shown_row true) rows j b is_b in
          let ids : x.0.id ≡ y.0.id = ap (λ (r : StagedRow). r.id) x.2 ∙ same ∙ ap (λ (r : StagedRow). r.id) (sym y.2) in
          ap L1 (once-filter (is_seen l) (outside l s) (once-outside once) i j x.0 y.0 x.1 y.1 ids)
      each (L1 i) (Main n j) a b is_a is_b sees_a sees_b same = absurd (apart i n j a b is_a is_b sees_b same)
      each (Main n j) (L1 i) a b is_a is_b sees_a sees_b same = absurd (apart i n j b a is_b is_a sees_a (sym same))
      each (Main n i) (Main m j) a b is_a is_b sees_a sees_b same =
          let x = part-was n i a is_a sees_a in
          let y = part-was m j b is_b sees_b in
          let ids : x.row.id ≡ y.row.id = ap (λ (r : StagedRow). r.id) (sym x.same) ∙ same ∙ ap (λ (r : StagedRow). r.id) y.same in
          sym x.is_place ∙ once.each x.place y.place x.row y.row x.at y.at x.seen y.seen ids ∙ y.is_place
      each (L2 i) q a b is_a is_b sees_a sees_b same = absurd (none_some a is_a)
      each (Closed i) q a b is_a is_b sees_a sees_b same = absurd (none_some a is_a)
      each (L1 i) (L2 j) a b is_a is_b sees_a sees_b same = absurd (none_some b is_b)
      each (L1 i) (Closed j) a b is_a is_b sees_a sees_b same = absurd (none_some b is_b)
      each (Main n i) (L2 j) a b is_a is_b sees_a sees_b same = absurd (none_some b is_b)
      each (Main n i) (Closed j) a b is_a is_b sees_a sees_b same = absurd (none_some b is_b)
