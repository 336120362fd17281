-- What a row more, and a row that is nobody's any more, make of the stages.
use Rattle.std.proofs.Common.{ℕ, zero, suc, ◌<◌, ◌≡◌, ◌≢◌, ◌⊎◌, inl, inr, Bool, true, false, cond, List, [], ◌∷◌, length, map, get_or, Option, None, Some, refl, sym, ap, ◌∙◌, arith, slice_get, slice_set, nat_eq, eq-eqb, true≢false}
use Rattle.std.proofs.lemmas.Bool.{cases_eq, ne_eqb}
use Rattle.std.proofs.lemmas.List.{map-append}
use Rattle.std.specs.Option.{option_map, option_and_then}
use Rattle.ut_value.specs.declared.value.Row.{Row}
use Rattle.ut_plain.specs.declared.stage.Placed.{Placed}
use Rattle.ut_plain.specs.Stages.{with_stages, entered, placed}
use Rattle.ut_plain.specs.Restart.{buried, with_dead}
use Rattle.ut_stamps.specs.declared.place.Place.{Place}
use Rattle.ut_stamps.specs.declared.place.Place.TheVariants.{L1, L2, Closed, Main}
use Rattle.ut_exact.specs.Places.{StagedRow, is_dead, Pushed}
use Rattle.ut_staged.specs.Staged.{Staged, row_at, row_in, placed_of, stages_of, entered_l1}
use Rattle.ut_staged.specs.Tables.{place_at}
use Rattle.ut_staged.proofs.ListLemmas.{none_some, get-within, get-set_other}
use Rattle.ut_staged.proofs.TableLemmas.{here, set_here, set_other, stages-here, stages-set}
use Rattle.ut_staged.proofs.StageLemmas.{pushed_l1}
use Rattle.ut_staged.proofs.PermutedLemmas.{cases_place}
use Rattle.ut_table.specs.Filled.{restamped, restamped_at}
use Rattle.ut_restart.specs.Shown.{stamp_of}
use Rattle.ut_restart.specs.Standing.{staged_at, live_row, entered_in, buried_in}
use Rattle.ut_restart.specs.Rows.{Changed, position}

pub get-at : (staged : List Staged) (n : ℕ) → n < length staged → slice_get staged n ≡ Some (staged_at staged n)
get-at [] n h = absurd (omega arith)
get-at (s ∷ staged) zero h = refl
get-at (s ∷ staged) (suc n) h = get-at staged n (omega arith)

-- a place that holds a row is one of a table
pub place-within : (staged : List Staged) (n : ℕ) (p : Place) (row : StagedRow) → place_at staged n p ≡ Some row → n < length staged
place-within staged n p row is = by (slice_get staged n) refl
  where
    by : (o : Option Staged) → slice_get staged n ≡ o → n < length staged
    by None e = absurd (none_some row (sym (ap (λ o. option_and_then (λ (s : Staged). row_at s p) o) e) ∙ is))
    by (Some s) e = get-within staged n s e

-- ---- a row more

changed-by_push : (old new : List Staged) (n : ℕ) (p : Place) (row : StagedRow) → Pushed (place_at old) (place_at new) n p row → Changed old new n p row
changed-by_push old new n p row push = record { here = push.new; others = λ m q. by m q (place_at new m q) refl }
  where
    gone : (m : ℕ) (q : Place) → place_at new m q ≡ None → (o : Option StagedRow) → place_at old m q ≡ o → place_at new m q ≡ place_at old m q
    gone m q none None e = none ∙ sym e
    gone m q none (Some r) e = absurd (none_some r (sym none ∙ push.old m q r e))

    by : (m : ℕ) (q : Place) (o : Option StagedRow) → place_at new m q ≡ o → ((m ≡ n) × (q ≡ p)) ⊎ (place_at new m q ≡ place_at old m q)
    by m q None e = inr (gone m q e (place_at old m q) refl)
    by m q (Some r) e = elim (push.each m q r e) [ inl it ↦ inl (it.0, it.1) | inr was ↦ inr (e ∙ sym was) ]

module _ (staged : List Staged) (n : ℕ) (row : Row) (there : n < length staged) where
  pushed : Pushed (place_at staged) (place_at (entered_in staged n row)) n (L1 (length (staged_at staged n).l1)) (live_row row)
  pushed = pushed_l1 staged n (staged_at staged n) (live_row row) (get-at staged n there)

  pub entered-changed : Changed staged (entered_in staged n row) n (L1 (length (staged_at staged n).l1)) (live_row row)
  entered-changed = changed-by_push staged (entered_in staged n row) n (L1 (length (staged_at staged n).l1)) (live_row row) pushed

  pub entered-free : place_at staged n (L1 (length (staged_at staged n).l1)) ≡ None
  entered-free = pushed.was

  pub entered-stages : map stages_of (entered_in staged n row) ≡ with_stages (entered false (placed row.id row.values)) n (map stages_of staged)
  entered-stages =
      stages-set staged n (entered_l1 (live_row row) (staged_at staged n))
      ∙ ap (slice_set (map stages_of staged) n) (ap (λ (l : List Placed). record (stages_of (staged_at staged n)) { l1 = l }) (map-append placed_of (staged_at staged n).l1 (live_row row ∷ [])) ∙ ap (entered false (placed row.id row.values)) (sym (stages-here staged n (staged_at staged n) (get-at staged n there))))

-- ---- a row that is nobody's any more

abbrev dead : StagedRow → StagedRow
dead row = record row { stamp = stamp_of true }

get-same : (i : ℕ) (rows : List StagedRow) (row : StagedRow) → slice_get rows i ≡ Some row → slice_get (restamped_at (stamp_of true) i rows) i ≡ Some (dead row)
get-same i [] row h = cc
get-same zero (r ∷ rows) row h = ap (λ o. option_and_then (λ x. Some (dead x)) o) h
get-same (suc i) (r ∷ rows) row h = get-same i rows row h

get-other : (i k : ℕ) (rows : List StagedRow) → k ≢ i → slice_get (restamped_at (stamp_of true) i rows) k ≡ slice_get rows k
get-other i k [] h = refl
get-other zero zero (r ∷ rows) h = absurd (h refl)
get-other zero (suc k) (r ∷ rows) h = refl
get-other (suc i) zero (r ∷ rows) h = refl
get-other (suc i) (suc k) (r ∷ rows) h = get-other i k rows (λ same. h (ap suc same))

part-same : (i : ℕ) (parts : List (List StagedRow)) (p : ℕ) → slice_get (slice_set parts p (restamped_at (stamp_of true) i (get_or parts p []))) p ≡ option_map (restamped_at (stamp_of true) i) (slice_get parts p)
part-same i [] p = refl
part-same i (rows ∷ parts) zero = refl
part-same i (rows ∷ parts) (suc p) = part-same i parts p

in-same : (i : ℕ) (rows : Option (List StagedRow)) (row : StagedRow) → row_in rows i ≡ Some row → row_in (option_map (restamped_at (stamp_of true) i) rows) i ≡ Some (dead row)
in-same i None row h = absurd (none_some row h)
in-same i (Some rows) row h = get-same i rows row h

in-other : (i k : ℕ) (rows : Option (List StagedRow)) → k ≢ i → row_in (option_map (restamped_at (stamp_of true) i) rows) k ≡ row_in rows k
in-other i k None h = refl
in-other i k (Some rows) h = get-other i k rows h

row-same : (p : Place) (s : Staged) (row : StagedRow) → row_at s p ≡ Some row → row_at (restamped (stamp_of true) p s) p ≡ Some (dead row)
row-same (L1 i) s row h = get-same i s.l1 row h
row-same (L2 i) s row h = get-same i s.l2 row h
row-same (Closed i) s row h = in-same i s.closed row h
row-same (Main p i) s row h = ap (λ o. row_in o i) (part-same i s.parts p) ∙ in-same i (slice_get s.parts p) row h

row-other : (p q : Place) (s : Staged) → q ≢ p → row_at (restamped (stamp_of true) p s) q ≡ row_at s q
row-other (L1 i) (L1 k) s other = get-other i k s.l1 (λ same. other (ap L1 same))
row-other (L1 i) (L2 k) s other = refl
row-other (L1 i) (Closed k) s other = refl
row-other (L1 i) (Main q k) s other = refl
row-other (L2 i) (L1 k) s other = refl
row-other (L2 i) (L2 k) s other = get-other i k s.l2 (λ same. other (ap L2 same))
row-other (L2 i) (Closed k) s other = refl
row-other (L2 i) (Main q k) s other = refl
row-other (Closed i) (L1 k) s other = refl
row-other (Closed i) (L2 k) s other = refl
row-other (Closed i) (Closed k) s other = in-other i k s.closed (λ same. other (ap Closed same))
row-other (Closed i) (Main q k) s other = refl
row-other (Main p i) (L1 k) s other = refl
row-other (Main p i) (L2 k) s other = refl
row-other (Main p i) (Closed k) s other = refl
row-other (Main p i) (Main q k) s other = elim (cases_eq q p) [
  | inl same ↦ ap (λ x. row_in (slice_get (slice_set s.parts p (restamped_at (stamp_of true) i (get_or s.parts p []))) x) k) same ∙ ap (λ o. row_in o k) (part-same i s.parts p)
      ∙ in-other i k (slice_get s.parts p) (λ e. other (λ x. Main (same x) (e x))) ∙ ap (λ x. row_in (slice_get s.parts x) k) (sym same)
  | inr away ↦ ap (λ o. row_in o k) (get-set_other s.parts p q (restamped_at (stamp_of true) i (get_or s.parts p [])) away)
]

pub buried-changed : (staged : List Staged) (n : ℕ) (p : Place) (row : StagedRow) → place_at staged n p ≡ Some row → Changed staged (buried_in staged (position n p)) n p (record row { stamp = stamp_of true })
buried-changed staged n p row is =
    let there = place-within staged n p row is in
    let at = get-at staged n there in
    let s = staged_at staged n in
    let new = restamped (stamp_of true) p s in
    record {
      here = set_here staged n new p there ∙ row-same p s row (sym (here staged n s p at) ∙ is);
      others = λ m q. elim (cases_eq m n) [
        | inl same ↦ elim (cases_place q p) [
          | inl place ↦ inl (same, place)
          | inr other ↦ inr (ap (λ k. place_at (slice_set staged n new) k q) same ∙ set_here staged n new q there ∙ row-other p q s other ∙ sym (here staged n s q at) ∙ ap (λ k. place_at staged k q) (sym same))
        ]
        | inr other ↦ inr (set_other staged n m new q other)
      ];
    }

-- ---- as the plain store has it: it marks each place of the id

same-place : (id : ℕ) (row : StagedRow) → (is_dead row.stamp ≡ false → row.id ≢ id) → buried id (placed_of row) ≡ placed_of row
same-place id row h = elim (cases_eq row.id id) [
  | inl is ↦ ap (λ (b : Bool). cond b (record (placed_of row) { dead = true }) (placed_of row)) (eq-eqb row.id id is) ∙ ap (λ (b : Bool). record { id = row.id; values = row.values; dead = b }) (sym (is_dead_so (is_dead row.stamp) refl is))
  | inr differs ↦ ap (λ (b : Bool). cond b (record (placed_of row) { dead = true }) (placed_of row)) (ne_eqb row.id id differs)
]
  where
    is_dead_so : (b : Bool) → is_dead row.stamp ≡ b → row.id ≡ id → is_dead row.stamp ≡ true
    is_dead_so true e is = e
    is_dead_so false e is = absurd (h e is)

-- no place that is somebody's holds the id
abbrev NoneLive : ℕ → List StagedRow → Type 0
NoneLive id rows = (k : ℕ) (row : StagedRow) → slice_get rows k ≡ Some row → is_dead row.stamp ≡ false → row.id ≢ id

none-buried : (id : ℕ) (rows : List StagedRow) → NoneLive id rows → map placed_of rows ≡ map (buried id) (map placed_of rows)
none-buried id [] none = refl
none-buried id (row ∷ rows) none = λ i. sym (same-place id row (none 0 row refl)) i ∷ none-buried id rows (λ k r is. none (suc k) r is) i

dead-place : (id : ℕ) (row : StagedRow) → row.id ≡ id → placed_of (dead row) ≡ buried id (placed_of row)
dead-place id row is = sym (ap (λ (b : Bool). cond b (record (placed_of row) { dead = true }) (placed_of row)) (eq-eqb row.id id is))

one-buried : (id i : ℕ) (rows : List StagedRow) (row : StagedRow) → slice_get rows i ≡ Some row → row.id ≡ id → ((k : ℕ) (r : StagedRow) → slice_get rows k ≡ Some r → is_dead r.stamp ≡ false → r.id ≡ id → k ≡ i)
    → map placed_of (restamped_at (stamp_of true) i rows) ≡ map (buried id) (map placed_of rows)
one-buried id i [] row is of_id one = cc
one-buried id zero (r ∷ rows) row is of_id one =
    let same : r ≡ row = cc in
    λ i. dead-place id r (ap (λ (x : StagedRow). x.id) same ∙ of_id) i ∷ none-buried id rows (λ k x at lives this. past k (one (suc k) x at lives this)) i
  where
    past : (k : ℕ) → suc k ≡ zero → ⊥
    past k e = omega arith
one-buried id (suc i) (r ∷ rows) row is of_id one = λ j.
    sym (same-place id r (λ lives this. past (one 0 r refl lives this))) j ∷ one-buried id i rows row is of_id (λ k x at lives this. down k (one (suc k) x at lives this)) j
  where
    past : zero ≡ suc i → ⊥
    past e = omega arith

    down : (k : ℕ) → suc k ≡ suc i → k ≡ i
    down k e = omega arith

none-parts : (id : ℕ) (parts : List (List StagedRow)) → ((g k : ℕ) (row : StagedRow) → row_in (slice_get parts g) k ≡ Some row → is_dead row.stamp ≡ false → row.id ≢ id) → map (map placed_of) parts ≡ map (map (buried id)) (map (map placed_of) parts)
none-parts id [] none = refl
none-parts id (rows ∷ parts) none = λ i. none-buried id rows (λ k r is. none 0 k r is) i ∷ none-parts id parts (λ g k r is. none (suc g) k r is) i

one-part : (id p i : ℕ) (parts : List (List StagedRow)) (row : StagedRow) → row_in (slice_get parts p) i ≡ Some row → row.id ≡ id → ((g k : ℕ) (r : StagedRow) → row_in (slice_get parts g) k ≡ Some r → is_dead r.stamp ≡ false → r.id ≡ id → (g ≡ p) × (k ≡ i))
    → map (map placed_of) (slice_set parts p (restamped_at (stamp_of true) i (get_or parts p []))) ≡ map (map (buried id)) (map (map placed_of) parts)
one-part id p i [] row is of_id one = cc
one-part id zero i (rows ∷ parts) row is of_id one = λ j.
    one-buried id i rows row is of_id (λ k r at lives this. (one 0 k r at lives this).1) j
    ∷ none-parts id parts (λ g k r at lives this. past g (one (suc g) k r at lives this).0) j
  where
    past : (g : ℕ) → suc g ≡ zero → ⊥
    past g e = omega arith
one-part id (suc p) i (rows ∷ parts) row is of_id one = λ j.
    none-buried id rows (λ k r at lives this. past (one 0 k r at lives this).0) j
    ∷ one-part id p i parts row is of_id (λ g k r at lives this. let o = one (suc g) k r at lives this in (down g o.0, o.1)) j
  where
    past : zero ≡ suc p → ⊥
    past e = omega arith

    down : (g : ℕ) → suc g ≡ suc p → g ≡ p
    down g e = omega arith

none-closed : (id : ℕ) (closed : Option (List StagedRow)) → ((k : ℕ) (row : StagedRow) → row_in closed k ≡ Some row → is_dead row.stamp ≡ false → row.id ≢ id) → option_map (map placed_of) closed ≡ option_map (map (buried id)) (option_map (map placed_of) closed)
none-closed id None none = refl
none-closed id (Some rows) none = ap Some (none-buried id rows (λ k r is. none k r is))

one-closed : (id i : ℕ) (closed : Option (List StagedRow)) (row : StagedRow) → row_in closed i ≡ Some row → row.id ≡ id → ((k : ℕ) (r : StagedRow) → row_in closed k ≡ Some r → is_dead r.stamp ≡ false → r.id ≡ id → k ≡ i)
    → option_map (map placed_of) (option_map (restamped_at (stamp_of true) i) closed) ≡ option_map (map (buried id)) (option_map (map placed_of) closed)
one-closed id i None row is of_id one = cc
one-closed id i (Some rows) row is of_id one = ap Some (one-buried id i rows row is of_id (λ k r at. one k r at))

-- ---- places of other stages

abbrev stage_number : Place → ℕ
stage_number (L1 i) = 0
stage_number (L2 i) = 1
stage_number (Closed i) = 2
stage_number (Main p i) = 3

abbrev number_in : Place → ℕ
number_in (L1 i) = i
number_in (L2 i) = i
number_in (Closed i) = i
number_in (Main p i) = i

abbrev part_in : Place → ℕ
part_in (L1 i) = 0
part_in (L2 i) = 0
part_in (Closed i) = 0
part_in (Main p i) = p

differ : (p q : Place) → nat_eq (stage_number p) (stage_number q) ≡ false → p ≡ q → ⊥
differ p q apart e = true≢false (sym (eq-eqb (stage_number p) (stage_number q) (ap stage_number e)) ∙ apart)

-- the one place of a table that is somebody's and holds the id
pub table-buried : (id : ℕ) (p : Place) (s : Staged) (row : StagedRow) → row_at s p ≡ Some row → row.id ≡ id → ((q : Place) (r : StagedRow) → row_at s q ≡ Some r → is_dead r.stamp ≡ false → r.id ≡ id → q ≡ p)
    → stages_of (restamped (stamp_of true) p s) ≡ with_dead id (stages_of s)
table-buried id (L1 i) s row is of_id one = λ j. record {
  l1 = one-buried id i s.l1 row is of_id (λ k r at lives this. ap number_in (one (L1 k) r at lives this)) j;
  l2 = none-buried id s.l2 (λ k r at lives this. differ (L2 k) (L1 i) refl (one (L2 k) r at lives this)) j;
  closed = none-closed id s.closed (λ k r at lives this. differ (Closed k) (L1 i) refl (one (Closed k) r at lives this)) j;
  parts = none-parts id s.parts (λ g k r at lives this. differ (Main g k) (L1 i) refl (one (Main g k) r at lives this)) j;
  keep = s.keep;
}
table-buried id (L2 i) s row is of_id one = λ j. record {
  l1 = none-buried id s.l1 (λ k r at lives this. differ (L1 k) (L2 i) refl (one (L1 k) r at lives this)) j;
  l2 = one-buried id i s.l2 row is of_id (λ k r at lives this. ap number_in (one (L2 k) r at lives this)) j;
  closed = none-closed id s.closed (λ k r at lives this. differ (Closed k) (L2 i) refl (one (Closed k) r at lives this)) j;
  parts = none-parts id s.parts (λ g k r at lives this. differ (Main g k) (L2 i) refl (one (Main g k) r at lives this)) j;
  keep = s.keep;
}
table-buried id (Closed i) s row is of_id one = λ j. record {
  l1 = none-buried id s.l1 (λ k r at lives this. differ (L1 k) (Closed i) refl (one (L1 k) r at lives this)) j;
  l2 = none-buried id s.l2 (λ k r at lives this. differ (L2 k) (Closed i) refl (one (L2 k) r at lives this)) j;
  closed = one-closed id i s.closed row is of_id (λ k r at lives this. ap number_in (one (Closed k) r at lives this)) j;
  parts = none-parts id s.parts (λ g k r at lives this. differ (Main g k) (Closed i) refl (one (Main g k) r at lives this)) j;
  keep = s.keep;
}
table-buried id (Main p i) s row is of_id one = λ j. record {
  l1 = none-buried id s.l1 (λ k r at lives this. differ (L1 k) (Main p i) refl (one (L1 k) r at lives this)) j;
  l2 = none-buried id s.l2 (λ k r at lives this. differ (L2 k) (Main p i) refl (one (L2 k) r at lives this)) j;
  closed = none-closed id s.closed (λ k r at lives this. differ (Closed k) (Main p i) refl (one (Closed k) r at lives this)) j;
  parts = one-part id p i s.parts row is of_id (λ g k r at lives this. let e = one (Main g k) r at lives this in (ap part_in e, ap number_in e)) j;
  keep = s.keep;
}

pub buried-stages : (staged : List Staged) (n id : ℕ) (p : Place) (row : StagedRow) → place_at staged n p ≡ Some row → row.id ≡ id → ((q : Place) (r : StagedRow) → place_at staged n q ≡ Some r → is_dead r.stamp ≡ false → r.id ≡ id → q ≡ p)
    → map stages_of (buried_in staged (position n p)) ≡ with_stages (with_dead id) n (map stages_of staged)
buried-stages staged n id p row is of_id one =
    let there = place-within staged n p row is in
    let at = get-at staged n there in
    let s = staged_at staged n in
    stages-set staged n (restamped (stamp_of true) p s)
    ∙ ap (slice_set (map stages_of staged) n)
    (table-buried id p s row (sym (here staged n s p at) ∙ is) of_id (λ q r is_at. one q r (here staged n s q at ∙ is_at)) ∙ ap (with_dead id) (sym (stages-here staged n s at)))
