-- One table's stages among those of all tables.
use Rattle.std.proofs.Common.{ℕ, zero, suc, ◌+◌, ◌<◌, ◌≤◌, ◌≡◌, ◌≢◌, inl, inr, cond, List, [], ◌∷◌, length, map, Option, None, Some, arith, refl, sym, ap, ◌∙◌, slice_get, slice_set, unwrap_or}
use Rattle.std.proofs.lemmas.Bool.{cases_eq, eq-eqb, ne_eqb}
use Rattle.std.proofs.lemmas.List.{length-map}
use Rattle.std.proofs.lemmas.List.Sums.{sum_by-cons}
use Rattle.std.specs.Option.{option_map, option_and_then}
use Rattle.ut_plain.specs.declared.stage.TableStages.{TableStages}
use Rattle.ut_plain.specs.Stages.{stages_at, no_stages, places_of, all_places}
use Rattle.ut_stamps.specs.declared.place.Place.{Place}
use Rattle.ut_exact.specs.Places.{StagedRow, Moved, Switched}
use Rattle.ut_staged.specs.Staged.{Staged, row_at, count_of, placed_of, stages_of}
use Rattle.ut_staged.specs.Tables.{place_at, moved_in}
use Rattle.ut_staged.proofs.ListLemmas.{none_some, some_same, get-within, get-map, get-set_same, get-set_other, map-set, set-same}

pub here : (staged : List Staged) (n : ℕ) (s : Staged) (p : Place) → slice_get staged n ≡ Some s → place_at staged n p ≡ row_at s p
here staged n s p is = ap (λ o. option_and_then (λ t. row_at t p) o) is

pub set_here : (staged : List Staged) (n : ℕ) (s : Staged) (p : Place) → n < length staged → place_at (slice_set staged n s) n p ≡ row_at s p
set_here staged n s p h = here (slice_set staged n s) n s p (get-set_same staged n s h)

pub set_other : (staged : List Staged) (n m : ℕ) (s : Staged) (p : Place) → m ≢ n → place_at (slice_set staged n s) m p ≡ place_at staged m p
set_other staged n m s p h = ap (λ o. option_and_then (λ t. row_at t p) o) (get-set_other staged n m s h)

pub stages-here : (staged : List Staged) (n : ℕ) (s : Staged) → slice_get staged n ≡ Some s → stages_at (map stages_of staged) n ≡ stages_of s
stages-here staged n s is = ap (λ (o : Option TableStages). unwrap_or o no_stages) (get-map stages_of staged n s is)

pub stages-set : (staged : List Staged) (n : ℕ) (new : Staged) → map stages_of (slice_set staged n new) ≡ slice_set (map stages_of staged) n (stages_of new)
stages-set staged n new = map-set stages_of staged n new

-- a change of one table that leaves something as it is
pub map-kept : {X : Type 0} (f : Staged → X) (staged : List Staged) (n : ℕ) (s new : Staged) → slice_get staged n ≡ Some s → f new ≡ f s → map f (slice_set staged n new) ≡ map f staged
map-kept f staged n s new is same = map-set f staged n new ∙ set-same (map f staged) n (f new) (get-map f staged n s is ∙ ap Some (sym same))

-- ---- rows that move within one table

from_here : (n : ℕ) (from : Place → Place) (m : ℕ) (q : Place) → m ≡ n → moved_in n from m q ≡ from q
from_here n from m q same = ap (λ b. cond b (from q) q) (eq-eqb m n same)

from_other : (n : ℕ) (from : Place → Place) (m : ℕ) (q : Place) → m ≢ n → moved_in n from m q ≡ q
from_other n from m q away = ap (λ b. cond b (from q) q) (ne_eqb m n away)

module _ (staged : List Staged) (n : ℕ) (s new : Staged) (from : Place → Place) (is : slice_get staged n ≡ Some s) where
  abbrev later : List Staged
  later = slice_set staged n new

  was : (m : ℕ) (q : Place) → m ≡ n → place_at staged m q ≡ row_at s q
  was m q same = ap (λ k. place_at staged k q) same ∙ here staged n s q is

  now : (m : ℕ) (q : Place) → m ≡ n → place_at later m q ≡ row_at new q
  now m q same = ap (λ k. place_at later k q) same ∙ set_here staged n new q (get-within staged n s is)

  takes : ((q : Place) (r : StagedRow) → row_at new q ≡ Some r → row_at s (from q) ≡ Some r) → (m : ℕ) (q : Place) (r : StagedRow) → place_at later m q ≡ Some r → place_at staged m (moved_in n from m q) ≡ Some r
  takes each m q r h = elim (cases_eq m n) [
    | inl same ↦ was m (moved_in n from m q) same ∙ ap (row_at s) (from_here n from m q same) ∙ each q r (sym (now m q same) ∙ h)
    | inr away ↦ ap (place_at staged m) (from_other n from m q away) ∙ sym (set_other staged n m new q away) ∙ h
  ]

  differ : ((p q : Place) (r u : StagedRow) → row_at new p ≡ Some r → row_at new q ≡ Some u → from p ≡ from q → p ≡ q)
      → (m : ℕ) (p q : Place) (r u : StagedRow) → place_at later m p ≡ Some r → place_at later m q ≡ Some u → moved_in n from m p ≡ moved_in n from m q → p ≡ q
  differ apart m p q r u hp hq e = elim (cases_eq m n) [
    | inl same ↦ apart p q r u (sym (now m p same) ∙ hp) (sym (now m q same) ∙ hq) (sym (from_here n from m p same) ∙ e ∙ from_here n from m q same)
    | inr away ↦ sym (from_other n from m p away) ∙ e ∙ from_other n from m q away
  ]

  pub moved_among : Moved (λ (k : ℕ) q. row_at s q) (λ k q. row_at new q) (λ k q. from q) → Moved (place_at staged) (place_at later) (moved_in n from)
  moved_among t = record {
    each = takes (λ q r h. t.each n q r h);
    all = λ m q r h. elim (cases_eq m n) [
      | inl same ↦ let f = t.all m q r (sym (was m q same) ∙ h) in (f.0, from_here n from m f.0 same ∙ f.1, now m f.0 same ∙ f.2)
      | inr away ↦ (q, from_other n from m q away, set_other staged n m new q away ∙ h)
    ];
    apart = differ (λ p q r u hp hq e. t.apart n p q r u hp hq e);
  }

  -- the same where places are given up
  pub switched_among : (dropped : Place → Type 0) → Switched (λ (k : ℕ) q. row_at s q) (λ k q. row_at new q) (λ k q. from q) (λ k q. dropped q) → Switched (place_at staged) (place_at later) (moved_in n from) (λ m q. (m ≡ n) × dropped q)
  switched_among dropped t = record {
    each = takes (λ q r h. t.each n q r h);
    all = λ m q r h. elim (cases_eq m n) [
      | inl same ↦ elim (t.all m q r (sym (was m q same) ∙ h)) [
        | inl d ↦ inl (same, d)
        | inr f ↦ inr (f.0, from_here n from m f.0 same ∙ f.1, now m f.0 same ∙ f.2)
      ]
      | inr away ↦ inr (q, from_other n from m q away, set_other staged n m new q away ∙ h)
    ];
    apart = differ (λ p q r u hp hq e. t.apart n p q r u hp hq e);
  }

-- ---- how many rows stand in the stages that aren't main

count_placed : (s : Staged) → places_of (stages_of s) ≡ count_of s
count_placed s = λ i. length-map s.l1 placed_of i + length-map s.l2 placed_of i + by s.closed i
  where
    by : (o : Option (List StagedRow)) → length (unwrap_or (option_map (map placed_of) o) []) ≡ length (unwrap_or o [])
    by None = refl
    by (Some rows) = length-map rows placed_of

-- those of one table are among all
pub count-within : (staged : List Staged) (n : ℕ) (s : Staged) → slice_get staged n ≡ Some s → count_of s ≤ all_places (map stages_of staged)
count-within [] n s h = absurd (none_some s h)
count-within (x ∷ xs) zero s h =
    let same : count_of x ≡ count_of s = ap count_of (some_same x s h) in
    let one = sum_by-cons places_of (stages_of x) (map stages_of xs) in
    omega (arith, same, one, count_placed x)
count-within (x ∷ xs) (suc n) s h =
    let rest = count-within xs n s h in
    let one = sum_by-cons places_of (stages_of x) (map stages_of xs) in
    omega (arith, rest, one)
