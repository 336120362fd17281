-- What a change of one table's stages makes of the places.
use Rattle.std.proofs.Common.{ℕ, zero, suc, ◌+◌, ◌<◌, ◌≡◌, ◌≢◌, ◌⊎◌, inl, inr, List, [], ◌∷◌, length, get_or, Option, None, Some, refl, sym, ap, ◌∙◌, arith, slice_get, slice_set, unwrap_or}
use Rattle.std.proofs.lemmas.Bool.{cases_eq}
use Rattle.std.specs.Option.{option_map, option_and_then}
use Rattle.ut_stamps.specs.declared.place.Place.{Place}
use Rattle.ut_stamps.specs.declared.place.Place.TheVariants.{L1, L2, Closed, Main}
use Rattle.ut_exact.specs.Places.{StagedRow, ended_row, Pushed, EndedAt}
use Rattle.ut_staged.specs.Staged.{Staged, row_at, row_in, count_of, entered_l1, entered_l2, end_at, ended_in}
use Rattle.ut_staged.specs.Tables.{place_at}
use Rattle.ut_staged.proofs.ListLemmas.{none_some, some_same, get-set_other, Last, Before, in_pushed, get-pushed, get-appended, get-past, get-within}
use Rattle.ut_staged.proofs.TableLemmas.{here, set_here, set_other}
use Rattle.ut_staged.proofs.PermutedLemmas.{cases_place}

-- what a change of one table says of all
module _ (staged : List Staged) (n : ℕ) (old new : Staged) (is : slice_get staged n ≡ Some old) where
  within : n < length staged
  within = get-within staged n old is

  at_new : (p : Place) → place_at (slice_set staged n new) n p ≡ row_at new p
  at_new p = set_here staged n new p within

  at_old : (p : Place) → place_at staged n p ≡ row_at old p
  at_old p = here staged n old p is

  pub pushed_in : (p : Place) (row : StagedRow) → row_at new p ≡ Some row → row_at old p ≡ None
      → ((q : Place) (r : StagedRow) → row_at old q ≡ Some r → row_at new q ≡ Some r)
      → ((q : Place) (r : StagedRow) → row_at new q ≡ Some r → ((q ≡ p) × (r ≡ row)) ⊎ (row_at old q ≡ Some r))
      → Pushed (place_at staged) (place_at (slice_set staged n new)) n p row
  pushed_in p row there free stays each = record {
    new = at_new p ∙ there;
    was = at_old p ∙ free;
    old = λ m q r h. elim (cases_eq m n) [
      | inl same ↦ ap (λ k. place_at (slice_set staged n new) k q) same ∙ at_new q ∙ stays q r (sym (at_old q) ∙ ap (λ k. place_at staged k q) (sym same) ∙ h)
      | inr other ↦ set_other staged n m new q other ∙ h
    ];
    each = λ m q r h. elim (cases_eq m n) [
      | inl same ↦ elim (each q r (sym (at_new q) ∙ ap (λ k. place_at (slice_set staged n new) k q) (sym same) ∙ h)) [
        | inl it ↦ inl (same, it.0, it.1)
        | inr was ↦ inr (ap (λ k. place_at staged k q) same ∙ at_old q ∙ was)
      ]
      | inr other ↦ inr (sym (set_other staged n m new q other) ∙ h)
    ];
  }

  pub ended_at : (p : Place) (row : StagedRow) (t : ℕ) → row_at old p ≡ Some row → row_at new p ≡ Some (ended_row t row)
      → ((q : Place) (r : StagedRow) → row_at old q ≡ Some r → (q ≡ p) ⊎ (row_at new q ≡ Some r))
      → ((q : Place) (r : StagedRow) → row_at new q ≡ Some r → ((q ≡ p) × (r ≡ ended_row t row)) ⊎ ((row_at old q ≡ Some r) × (q ≢ p)))
      → EndedAt (place_at staged) (place_at (slice_set staged n new)) n p row t
  ended_at p row t was there stays each = record {
    here = at_old p ∙ was;
    new = at_new p ∙ there;
    old = λ m q r h. elim (cases_eq m n) [
      | inl same ↦ elim (stays q r (sym (at_old q) ∙ ap (λ k. place_at staged k q) (sym same) ∙ h)) [
        | inl it ↦ inl (same, it)
        | inr still ↦ inr (ap (λ k. place_at (slice_set staged n new) k q) same ∙ at_new q ∙ still)
      ]
      | inr other ↦ inr (set_other staged n m new q other ∙ h)
    ];
    each = λ m q r h. elim (cases_eq m n) [
      | inl same ↦ elim (each q r (sym (at_new q) ∙ ap (λ k. place_at (slice_set staged n new) k q) (sym same) ∙ h)) [
        | inl it ↦ inl (same, it.0, it.1)
        | inr was ↦ inr (ap (λ k. place_at staged k q) same ∙ at_old q ∙ was.0, λ at same_place. was.1 same_place)
      ]
      | inr other ↦ inr (sym (set_other staged n m new q other) ∙ h, λ at same_place. other at)
    ];
  }

-- ---- a row enters

pub pushed_l1 : (staged : List Staged) (n : ℕ) (s : Staged) (row : StagedRow) → slice_get staged n ≡ Some s
    → Pushed (place_at staged) (place_at (slice_set staged n (entered_l1 row s))) n (L1 (length s.l1)) row
pushed_l1 staged n s row is = pushed_in staged n s (entered_l1 row s) is (L1 (length s.l1)) row (get-pushed s.l1 row) (get-past s.l1 (length s.l1) (omega arith)) stays each
  where
    stays : (q : Place) (r : StagedRow) → row_at s q ≡ Some r → row_at (entered_l1 row s) q ≡ Some r
    stays (L1 i) r h = get-appended s.l1 (row ∷ []) i r h
    stays (L2 i) r h = h
    stays (Closed i) r h = h
    stays (Main p i) r h = h

    each : (q : Place) (r : StagedRow) → row_at (entered_l1 row s) q ≡ Some r → ((q ≡ L1 (length s.l1)) × (r ≡ row)) ⊎ (row_at s q ≡ Some r)
    each (L1 i) r h = elim (in_pushed s.l1 row i r h) [ Last at same ↦ inl (ap L1 at, same) | Before was ↦ inr was ]
    each (L2 i) r h = inr h
    each (Closed i) r h = inr h
    each (Main p i) r h = inr h

pub pushed_l2 : (staged : List Staged) (n : ℕ) (s : Staged) (row : StagedRow) → slice_get staged n ≡ Some s
    → Pushed (place_at staged) (place_at (slice_set staged n (entered_l2 (row ∷ []) s))) n (L2 (length s.l2)) row
pushed_l2 staged n s row is = pushed_in staged n s (entered_l2 (row ∷ []) s) is (L2 (length s.l2)) row (get-pushed s.l2 row) (get-past s.l2 (length s.l2) (omega arith)) stays each
  where
    stays : (q : Place) (r : StagedRow) → row_at s q ≡ Some r → row_at (entered_l2 (row ∷ []) s) q ≡ Some r
    stays (L1 i) r h = h
    stays (L2 i) r h = get-appended s.l2 (row ∷ []) i r h
    stays (Closed i) r h = h
    stays (Main p i) r h = h

    each : (q : Place) (r : StagedRow) → row_at (entered_l2 (row ∷ []) s) q ≡ Some r → ((q ≡ L2 (length s.l2)) × (r ≡ row)) ⊎ (row_at s q ≡ Some r)
    each (L1 i) r h = inr h
    each (L2 i) r h = elim (in_pushed s.l2 row i r h) [ Last at same ↦ inl (ap L2 at, same) | Before was ↦ inr was ]
    each (Closed i) r h = inr h
    each (Main p i) r h = inr h

-- ---- a row ends

pub get-end_same : (t i : ℕ) (rows : List StagedRow) (row : StagedRow) → slice_get rows i ≡ Some row → slice_get (end_at t i rows) i ≡ Some (ended_row t row)
get-end_same t i [] row h = cc
get-end_same t zero (r ∷ rows) row h = ap (λ o. option_and_then (λ x. Some (ended_row t x)) o) h
get-end_same t (suc i) (r ∷ rows) row h = get-end_same t i rows row h

pub get-end_other : (t i k : ℕ) (rows : List StagedRow) → k ≢ i → slice_get (end_at t i rows) k ≡ slice_get rows k
get-end_other t i k [] h = refl
get-end_other t zero zero (r ∷ rows) h = absurd (h refl)
get-end_other t zero (suc k) (r ∷ rows) h = refl
get-end_other t (suc i) zero (r ∷ rows) h = refl
get-end_other t (suc i) (suc k) (r ∷ rows) h = get-end_other t i k rows (λ same. h (ap suc same))

-- a part with an end
end-part : (t i : ℕ) (parts : List (List StagedRow)) (p : ℕ) → slice_get (slice_set parts p (end_at t i (get_or parts p []))) p ≡ option_map (end_at t i) (slice_get parts p)
end-part t i [] p = refl
end-part t i (rows ∷ parts) zero = refl
end-part t i (rows ∷ parts) (suc p) = end-part t i parts p

end_in-same : (t i : ℕ) (rows : Option (List StagedRow)) (row : StagedRow) → row_in rows i ≡ Some row → row_in (option_map (end_at t i) rows) i ≡ Some (ended_row t row)
end_in-same t i None row h = absurd (none_some row h)
end_in-same t i (Some rows) row h = get-end_same t i rows row h

end_in-other : (t i k : ℕ) (rows : Option (List StagedRow)) → k ≢ i → row_in (option_map (end_at t i) rows) k ≡ row_in rows k
end_in-other t i k None h = refl
end_in-other t i k (Some rows) h = get-end_other t i k rows h

pub row-ended : (t : ℕ) (p : Place) (s : Staged) (row : StagedRow) → row_at s p ≡ Some row → row_at (ended_in t p s) p ≡ Some (ended_row t row)
row-ended t (L1 i) s row h = get-end_same t i s.l1 row h
row-ended t (L2 i) s row h = get-end_same t i s.l2 row h
row-ended t (Closed i) s row h = end_in-same t i s.closed row h
row-ended t (Main p i) s row h = ap (λ o. row_in o i) (end-part t i s.parts p) ∙ end_in-same t i (slice_get s.parts p) row h

-- another place is as before
pub row-ended_other : (t : ℕ) (p q : Place) (s : Staged) → q ≢ p → row_at (ended_in t p s) q ≡ row_at s q
row-ended_other t (L1 i) (L1 k) s other = get-end_other t i k s.l1 (λ same. other (ap L1 same))
row-ended_other t (L1 i) (L2 k) s other = refl
row-ended_other t (L1 i) (Closed k) s other = refl
row-ended_other t (L1 i) (Main q k) s other = refl
row-ended_other t (L2 i) (L1 k) s other = refl
row-ended_other t (L2 i) (L2 k) s other = get-end_other t i k s.l2 (λ same. other (ap L2 same))
row-ended_other t (L2 i) (Closed k) s other = refl
row-ended_other t (L2 i) (Main q k) s other = refl
row-ended_other t (Closed i) (L1 k) s other = refl
row-ended_other t (Closed i) (L2 k) s other = refl
row-ended_other t (Closed i) (Closed k) s other = end_in-other t i k s.closed (λ same. other (ap Closed same))
row-ended_other t (Closed i) (Main q k) s other = refl
row-ended_other t (Main p i) (L1 k) s other = refl
row-ended_other t (Main p i) (L2 k) s other = refl
row-ended_other t (Main p i) (Closed k) s other = refl
row-ended_other t (Main p i) (Main q k) s other = elim (cases_eq q p) [
  | inl same ↦ ap (λ x. row_in (slice_get (slice_set s.parts p (end_at t i (get_or s.parts p []))) x) k) same ∙ ap (λ o. row_in o k) (end-part t i s.parts p)
      ∙ end_in-other t i k (slice_get s.parts p) (λ e. other (λ x. Main (same x) (e x))) ∙ ap (λ x. row_in (slice_get s.parts x) k) (sym same)
  | inr away ↦ ap (λ o. row_in o k) (get-set_other s.parts p q (end_at t i (get_or s.parts p [])) away)
]

pub ended_in_place : (staged : List Staged) (n : ℕ) (s : Staged) (p : Place) (row : StagedRow) (t : ℕ) → slice_get staged n ≡ Some s → row_at s p ≡ Some row
    → EndedAt (place_at staged) (place_at (slice_set staged n (ended_in t p s))) n p row t
ended_in_place staged n s p row t is at = ended_at staged n s (ended_in t p s) is p row t at (row-ended t p s row at) stays each
  where
    stays : (q : Place) (r : StagedRow) → row_at s q ≡ Some r → (q ≡ p) ⊎ (row_at (ended_in t p s) q ≡ Some r)
    stays q r h = elim (cases_place q p) [ inl same ↦ inl same | inr other ↦ inr (row-ended_other t p q s other ∙ h) ]

    each : (q : Place) (r : StagedRow) → row_at (ended_in t p s) q ≡ Some r → ((q ≡ p) × (r ≡ ended_row t row)) ⊎ ((row_at s q ≡ Some r) × (q ≢ p))
    each q r h = elim (cases_place q p) [
      | inl same ↦ inl (same, some_same r (ended_row t row) (sym h ∙ ap (row_at (ended_in t p s)) same ∙ row-ended t p s row at))
      | inr other ↦ inr (sym (row-ended_other t p q s other) ∙ h, other)
    ]

-- a row that stood somewhere stands there still, perhaps with an end
pub row-stays : (t : ℕ) (p q : Place) (s : Staged) (row : StagedRow) → row_at s q ≡ Some row → (now : StagedRow) × (row_at (ended_in t p s) q ≡ Some now)
row-stays t p q s row h = elim (cases_place q p) [
  | inl same ↦ (ended_row t row, ap (row_at (ended_in t p s)) same ∙ row-ended t p s row (ap (row_at s) (sym same) ∙ h))
  | inr other ↦ (row, row-ended_other t p q s other ∙ h)
]

length-end : (t i : ℕ) (rows : List StagedRow) → length (end_at t i rows) ≡ length rows
length-end t i [] = refl
length-end t zero (row ∷ rows) = refl
length-end t (suc i) (row ∷ rows) = ap suc (length-end t i rows)

-- there are as many rows as before
pub count-ended : (t : ℕ) (p : Place) (s : Staged) → count_of (ended_in t p s) ≡ count_of s
count-ended t (L1 i) s = ap (λ n. n + length s.l2 + length (unwrap_or s.closed [])) (length-end t i s.l1)
count-ended t (L2 i) s = ap (λ n. length s.l1 + n + length (unwrap_or s.closed [])) (length-end t i s.l2)
count-ended t (Closed i) s = ap (λ n. length s.l1 + length s.l2 + n) (by s.closed)
  where
    by : (o : Option (List StagedRow)) → length (unwrap_or (option_map (end_at t i) o) []) ≡ length (unwrap_or o [])
    by None = refl
    by (Some rows) = length-end t i rows
count-ended t (Main p i) s = refl
