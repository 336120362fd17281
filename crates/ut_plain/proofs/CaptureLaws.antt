-- What is captured are the rows of the state.
use Rattle.std.proofs.Common.{◌≡◌, ◌⊎◌, inl, inr, ⊎_elim, ℕ, zero, suc, Bool, true, false, not, ◌&&◌, cond, List, [], ◌∷◌, map, filter, Option, None, Some, refl, sym, ◌∙◌, ap, subst, arith}
use Rattle.std.specs.Prelude.{Contains, is_some, slice_get}
use Rattle.std.specs.Option.{option_map, unwrap_or}
use Rattle.std.specs.FinMap as finmap
use Rattle.std.proofs.lemmas.Option.{slice_get-map}
use Rattle.std.proofs.lemmas.List.Elements.{Contains-append_left, Contains-append_right, Contains-append_cases}
use Rattle.ut_plain.specs.declared.stage.Placed.{Placed}
use Rattle.ut_plain.specs.declared.stage.TableStages.{TableStages}
use Rattle.ut_plain.specs.Rows.{Rows}
use Rattle.ut_plain.specs.Stages.{Stages, no_stages, stages_at}
use Rattle.ut_plain.specs.Laws.{CaptureHasTheRows}
use Rattle.ut_plain.specs.Capture.{is_live, captured_place, captured_rows, captured_table, StandsInTable, row_of, StandsAnywhere}

-- ---- elements of lists

pub first_in : {X : Type 0} (x y : X) (xs : List X) → x ≡ y → Contains (x ∷ xs) y
first_in x y xs is = (0, omega arith, is)

pub later_in : {X : Type 0} (x y : X) (xs : List X) → Contains xs y → Contains (x ∷ xs) y
later_in x y xs is = (suc is.0, omega (arith, is.1), is.2)

pub in_tail : {X : Type 0} (x y : X) (xs : List X) → Contains (x ∷ xs) y → (x ≡ y) ⊎ Contains xs y
in_tail x y xs (zero, lt, is) = inl is
in_tail x y xs (suc i, lt, is) = inr (i, omega (arith, lt), is)

pub in_filter : {X : Type 0} (test : X → Bool) (xs : List X) (x : X) → Contains (filter test xs) x → Contains xs x × (test x ≡ true)
in_filter test [] x (i, lt, is) = absurd (omega (arith, lt))
in_filter test (y ∷ xs) x has = split (test y) refl (λ rest. in_filter test xs x rest) has
  where
    split : (b : Bool) → test y ≡ b → (Contains (filter test xs) x → Contains xs x × (test x ≡ true)) → Contains (cond b (y ∷ filter test xs) (filter test xs)) x → Contains (y ∷ xs) x × (test x ≡ true)
    split true is more has = ⊎_elim
        (λ same. (first_in y x xs same, ap test (sym same) ∙ is))
        (λ rest. let found = more rest in (later_in y x xs found.0, found.1))
        (in_tail y x (filter test xs) has)
    split false is more has = let found = more has in (later_in y x xs found.0, found.1)

pub to_filter : {X : Type 0} (test : X → Bool) (xs : List X) (x : X) → Contains xs x → test x ≡ true → Contains (filter test xs) x
to_filter test [] x (i, lt, is) passes = absurd (omega (arith, lt))
to_filter test (y ∷ xs) x has passes = ⊎_elim
    (λ same. subst (λ (b : Bool). Contains (cond b (y ∷ filter test xs) (filter test xs)) x) (sym (ap test same ∙ passes)) (first_in y x (filter test xs) same))
    (λ rest. keep (test y) (to_filter test xs x rest passes))
    (in_tail y x xs has)
  where
    keep : (b : Bool) → Contains (filter test xs) x → Contains (cond b (y ∷ filter test xs) (filter test xs)) x
    keep true is = later_in y x (filter test xs) is
    keep false is = is

pub in_map : {X Y : Type 0} (f : X → Y) (xs : List X) (y : Y) → Contains (map f xs) y → (x : X) × Contains xs x × (f x ≡ y)
in_map f [] y (i, lt, is) = absurd (omega (arith, lt))
in_map f (x ∷ xs) y has = ⊎_elim
    (λ same. (x, first_in x x xs refl, same))
    (λ rest. let more = in_map f xs y rest in (more.0, later_in x more.0 xs more.1, more.2))
    (in_tail (f x) y (map f xs) has)

pub to_map : {X Y : Type 0} (f : X → Y) (xs : List X) (x : X) → Contains xs x → Contains (map f xs) (f x)
to_map f [] x (i, lt, is) = absurd (omega (arith, lt))
to_map f (y ∷ xs) x has = ⊎_elim
    (λ same. first_in (f y) (f x) (map f xs) (ap f same))
    (λ rest. later_in (f y) (f x) (map f xs) (to_map f xs x rest))
    (in_tail y x xs has)

-- ---- live places

and_first : (a b : Bool) → (a && b) ≡ true → a ≡ true
and_first true b is = refl
and_first false b is = is

not_true : (a : Bool) → not a ≡ true → a ≡ false
not_true true is = sym is
not_true false is = refl

not_false : (a : Bool) → not a ≡ false → a ≡ true
not_false true is = refl
not_false false is = sym is

-- a table after it was captured
pub captured_at : (rows : Rows) (stages : Stages) (n : ℕ) → stages_at (map (captured_table rows) stages) n ≡ captured_table rows (stages_at stages n)
captured_at rows stages n = ap (λ (o : Option TableStages). unwrap_or o no_stages) (slice_get-map (captured_table rows) stages n) ∙ one (slice_get stages n)
  where
    one : (o : Option TableStages) → unwrap_or (option_map (captured_table rows) o) no_stages ≡ captured_table rows (unwrap_or o no_stages)
    one None = refl
    one (Some t) = refl

module _ (rows : Rows) where
  live_row : (p : Placed) → is_live rows p ≡ true → p.dead ≡ false
  live_row p live = not_true p.dead (and_first (not p.dead) (is_some (finmap.get rows p.id)) live)

  -- a place of a captured table is a live place of the table
  from_captured : (t : TableStages) (p : Placed) → StandsInTable (captured_table rows t) p → p.dead ≡ false → (q : Placed) × StandsAnywhere t q × (is_live rows q ≡ true) × (q.id ≡ p.id) × (q.values ≡ p.values)
  from_captured t p (inl l1) live = let has = in_filter (is_live rows) t.l1 p l1 in (p, inl has.0, has.1, refl, refl)
  from_captured t p (inr (inl l2)) live = ⊎_elim
      (λ closed. let has = in_filter (is_live rows) (unwrap_or t.closed []) p closed in (p, inr (inr (inl has.0)), has.1, refl, refl))
      (λ own. let has = in_filter (is_live rows) t.l2 p own in (p, inr (inl has.0), has.1, refl, refl))
      (Contains-append_cases (captured_rows rows (unwrap_or t.closed [])) (captured_rows rows t.l2) p l2)
  from_captured t p (inr (inr (part, in_parts, in_part))) live =
      let old = in_map (map (captured_place rows)) t.parts part in_parts in
      let place = in_map (captured_place rows) old.0 p (subst (λ (l : List Placed). Contains l p) (sym old.2) in_part) in
      let dead : not (is_live rows place.0) ≡ false = ap (λ (x : Placed). x.dead) place.2 ∙ live in
      (place.0, inr (inr (inr (old.0, old.1, place.1))), not_false (is_live rows place.0) dead, ap (λ (x : Placed). x.id) place.2, ap (λ (x : Placed). x.values) place.2)

  to_captured : (t : TableStages) (q : Placed) → StandsAnywhere t q → is_live rows q ≡ true → (p : Placed) × StandsInTable (captured_table rows t) p × (p.dead ≡ false) × (p.id ≡ q.id) × (p.values ≡ q.values)
  to_captured t q (inl l1) live = (q, inl (to_filter (is_live rows) t.l1 q l1 live), live_row q live, refl, refl)
  to_captured t q (inr (inl l2)) live = (q, inr (inl (Contains-append_right (captured_rows rows (unwrap_or t.closed [])) (captured_rows rows t.l2) q (to_filter (is_live rows) t.l2 q l2 live))), live_row q live, refl, refl)
  to_captured t q (inr (inr (inl closed))) live = (q, inr (inl (Contains-append_left (captured_rows rows (unwrap_or t.closed [])) (captured_rows rows t.l2) q (to_filter (is_live rows) (unwrap_or t.closed []) q closed live))), live_row q live, refl, refl)
  to_captured t q (inr (inr (inr (part, in_parts, in_part)))) live = (
    captured_place rows q,
    inr (inr (map (captured_place rows) part, to_map (map (captured_place rows)) t.parts part in_parts, to_map (captured_place rows) part q in_part)),
    ap not live,
    refl,
    refl,
  )

-- The live places of what is captured are the rows of the state.
pub capture_rows : CaptureHasTheRows
capture_rows s stages held = record {
  each = λ n p stands live.
      let q = from_captured s.rows (stages_at stages n) p (subst (λ (t : TableStages). StandsInTable t p) (captured_at s.rows stages n) stands) live in
      let row : finmap.get s.rows q.0.id ≡ Some (row_of n q.0) = held.each n q.0 q.1 q.2 in
      ap (finmap.get s.rows) (sym q.3) ∙ row ∙ ap (λ (vs : List _). Some (record { table = n; values = vs })) q.4;
  only = λ id row is.
      let q = held.only id row is in
      let p = to_captured s.rows (stages_at stages q.0) q.1 q.2 q.3 in
      (q.0, p.0, subst (λ (t : TableStages). StandsInTable t p.0) (sym (captured_at s.rows stages q.0)) p.1, p.2, p.3 ∙ q.4, ap (λ (vs : List _). record { table = q.0; values = vs }) p.4 ∙ q.5);
}
