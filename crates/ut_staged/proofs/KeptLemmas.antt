-- The kept places, in their old order, are each place that is kept, once.
use Rattle.std.proofs.Common.{ℕ, zero, suc, ◌+◌, ◌-◌, ◌<◌, ◌≤◌, ◌≡◌, ◌⊎◌, inl, inr, Bool, true, false, cond, List, [], ◌∷◌, ◌++◌, length, drop, Option, None, Some, refl, sym, ap, ◌∙◌, arith, slice_get, true≢false, length-append}
use Rattle.std.proofs.lemmas.Bool.{cases_lt, lt-ltb, le-ltb, le-leb, leb-true}
use Rattle.std.proofs.lemmas.List.{length-map, length-drop}
use Rattle.std.specs.Option.{option_and_then}
use Rattle.ut_exact.specs.Places.{StagedRow}
use Rattle.ut_stamps.specs.declared.place.Place.{Place}
use Rattle.ut_stamps.specs.declared.place.Place.TheVariants.{L1, L2, Closed, Main}
use Rattle.ut_staged.specs.Staged.{Staged, row_at, row_in, is_rebuilt}
use Rattle.ut_staged.specs.Choice.{IsChoice, kept_from, kept_lists, place_of, kept_places, flag_at, AreFlags, IsDropped}
use Rattle.ut_staged.proofs.ListLemmas.{none_some, some_same, get-within, get-front, get-behind, get-drop, get-there, get-pushed, same_size, split_get}

-- ---- one list

from-of : (at : ℕ → Place) (i : ℕ) (flags : List Bool) (k : ℕ) (p : Place) → slice_get (kept_from at i flags) k ≡ Some p → (n : ℕ) × (p ≡ at (i + n)) × (slice_get flags n ≡ Some true)
from-of at i [] k p h = absurd (none_some p h)
from-of at i (true ∷ flags) zero p h = let e : i ≡ i + 0 = omega arith in (0, sym (some_same (at i) p h) ∙ ap at e, refl)
from-of at i (true ∷ flags) (suc k) p h = let r = from-of at (suc i) flags k p h in let e : suc i + r.0 ≡ i + suc r.0 = omega arith in (suc r.0, r.1 ∙ ap at e, r.2)
from-of at i (false ∷ flags) k p h = let r = from-of at (suc i) flags k p h in let e : suc i + r.0 ≡ i + suc r.0 = omega arith in (suc r.0, r.1 ∙ ap at e, r.2)

from-to : (at : ℕ → Place) (i : ℕ) (flags : List Bool) (n : ℕ) → slice_get flags n ≡ Some true → (k : ℕ) × (slice_get (kept_from at i flags) k ≡ Some (at (i + n)))
from-to at i [] n h = absurd (none_some true h)
from-to at i (true ∷ flags) zero h = let e : i ≡ i + 0 = omega arith in (0, ap (λ x. Some (at x)) e)
from-to at i (false ∷ flags) zero h = absurd (true≢false (sym (some_same false true h)))
from-to at i (true ∷ flags) (suc n) h = let r = from-to at (suc i) flags n h in let e : suc i + n ≡ i + suc n = omega arith in (suc r.0, r.1 ∙ ap (λ x. Some (at x)) e)
from-to at i (false ∷ flags) (suc n) h = let r = from-to at (suc i) flags n h in let e : suc i + n ≡ i + suc n = omega arith in (r.0, r.1 ∙ ap (λ x. Some (at x)) e)

from-once : (at : ℕ → Place) → ((i k : ℕ) → at i ≡ at k → i ≡ k) → (i : ℕ) (flags : List Bool) (a b : ℕ) (p : Place) → slice_get (kept_from at i flags) a ≡ Some p → slice_get (kept_from at i flags) b ≡ Some p → a ≡ b
from-once at apart i [] a b p h g = absurd (none_some p h)
from-once at apart i (true ∷ flags) zero zero p h g = refl
from-once at apart i (true ∷ flags) zero (suc b) p h g = let r = from-of at (suc i) flags b p g in absurd (omega (arith, apart i (suc i + r.0) (some_same (at i) p h ∙ r.1)))
from-once at apart i (true ∷ flags) (suc a) zero p h g = let r = from-of at (suc i) flags a p h in absurd (omega (arith, apart i (suc i + r.0) (some_same (at i) p g ∙ r.1)))
from-once at apart i (true ∷ flags) (suc a) (suc b) p h g = ap suc (from-once at apart (suc i) flags a b p h g)
from-once at apart i (false ∷ flags) a b p h g = from-once at apart (suc i) flags a b p h g

-- ---- lists, one behind the other

lists-of : (at : ℕ → ℕ → Place) (g : ℕ) (keep : List (List Bool)) (k : ℕ) (p : Place) → slice_get (kept_lists at g keep) k ≡ Some p → (m n : ℕ) × (p ≡ at (g + m) n) × (flag_at keep m n ≡ Some true)
lists-of at g [] k p h = absurd (none_some p h)
lists-of at g (flags ∷ keep) k p h = elim (split_get (kept_from (at g) 0 flags) (kept_lists at (suc g) keep) k p h) [
  | inl here ↦ let r = from-of (at g) 0 flags k p here in let e : g ≡ g + 0 = omega arith in let z : 0 + r.0 ≡ r.0 = omega arith in (0, r.0, r.1 ∙ (λ i. at (e i) (z i)), r.2)
  | inr there ↦ let r = lists-of at (suc g) keep there.0 p there.2 in let e : suc g + r.0 ≡ g + suc r.0 = omega arith in (suc r.0, r.1, r.2 ∙ ap (λ x. at x r.1) e, r.3)
]

lists-to : (at : ℕ → ℕ → Place) (g : ℕ) (keep : List (List Bool)) (m n : ℕ) → flag_at keep m n ≡ Some true → (k : ℕ) × (slice_get (kept_lists at g keep) k ≡ Some (at (g + m) n))
lists-to at g [] m n h = absurd (none_some true h)
lists-to at g (flags ∷ keep) zero n h =
    let r = from-to (at g) 0 flags n h in
    let e : g ≡ g + 0 = omega arith in
    let z : 0 + n ≡ n = omega arith in
    (r.0, get-front (kept_from (at g) 0 flags) (kept_lists at (suc g) keep) r.0 (get-within (kept_from (at g) 0 flags) r.0 (at g (0 + n)) r.1) ∙ r.1 ∙ (λ i. Some (at (e i) (z i))))
lists-to at g (flags ∷ keep) (suc m) n h =
    let r = lists-to at (suc g) keep m n h in
    let e : suc g + m ≡ g + suc m = omega arith in
    (length (kept_from (at g) 0 flags) + r.0, get-behind (kept_from (at g) 0 flags) (kept_lists at (suc g) keep) r.0 ∙ r.1 ∙ ap (λ x. Some (at x n)) e)

lists-once : (at : ℕ → ℕ → Place) (last : ℕ) → ((g m i k : ℕ) → g < last → m < last → at g i ≡ at m k → (g ≡ m) × (i ≡ k)) → (g : ℕ) (keep : List (List Bool)) → g + length keep ≤ last → (a b : ℕ) (p : Place)
    → slice_get (kept_lists at g keep) a ≡ Some p → slice_get (kept_lists at g keep) b ≡ Some p → a ≡ b
lists-once at last apart g [] le a b p h k = absurd (none_some p h)
lists-once at last apart g (flags ∷ keep) le a b p h k =
    by (split_get (kept_from (at g) 0 flags) (kept_lists at (suc g) keep) a p h) (split_get (kept_from (at g) 0 flags) (kept_lists at (suc g) keep) b p k) (λ x y. lists-once at last apart (suc g) keep (omega (arith, le)) x y p)
  where
    crossed : {X : Type 0} (x y : ℕ) → slice_get (kept_from (at g) 0 flags) x ≡ Some p → slice_get (kept_lists at (suc g) keep) y ≡ Some p → X
    crossed x y here there =
        let r = from-of (at g) 0 flags x p here in
        let q = lists-of at (suc g) keep y p there in
        let small : q.0 < length keep = within keep q.0 q.1 q.3 in
        absurd (omega (arith, (apart g (suc g + q.0) (0 + r.0) q.1 (omega (arith, le)) (omega (arith, le, small)) (sym r.1 ∙ q.2)).0))
      where
        within : (xs : List (List Bool)) (m n : ℕ) → flag_at xs m n ≡ Some true → m < length xs
        within [] m n e = absurd (none_some true e)
        within (x ∷ xs) zero n e = omega arith
        within (x ∷ xs) (suc m) n e = omega (arith, within xs m n e)

    by : (slice_get (kept_from (at g) 0 flags) a ≡ Some p) ⊎ ((m : ℕ) × (a ≡ length (kept_from (at g) 0 flags) + m) × (slice_get (kept_lists at (suc g) keep) m ≡ Some p))
        → (slice_get (kept_from (at g) 0 flags) b ≡ Some p) ⊎ ((m : ℕ) × (b ≡ length (kept_from (at g) 0 flags) + m) × (slice_get (kept_lists at (suc g) keep) m ≡ Some p))
        → ((x y : ℕ) → slice_get (kept_lists at (suc g) keep) x ≡ Some p → slice_get (kept_lists at (suc g) keep) y ≡ Some p → x ≡ y) → a ≡ b
    by (inl x) (inl y) rest = from-once (at g) (λ i j e. (apart g g i j (omega (arith, le)) (omega (arith, le)) e).1) 0 flags a b p x y
    by (inl x) (inr y) rest = crossed a y.0 x y.2
    by (inr x) (inl y) rest = crossed b x.0 y x.2
    by (inr x) (inr y) rest = x.1 ∙ ap (λ n. length (kept_from (at g) 0 flags) + n) (rest x.0 y.0 x.2 y.2) ∙ sym y.1

-- ---- the places of main and of the closed stage

flag-dropped : (n : ℕ) (keep : List (List Bool)) (g i : ℕ) → flag_at (drop n keep) g i ≡ flag_at keep (n + g) i
flag-dropped n keep g i = ap (option_and_then (λ (flags : List Bool). slice_get flags i)) (get-drop n keep g)

module _ (s : Staged) (f : AreFlags s) where
  abbrev lists : List (List StagedRow)
  lists = s.parts ++ f.closed ∷ []

  pub many : length lists ≡ length s.parts + 1
  many = length-append s.parts (f.closed ∷ [])

  in_main : (g i : ℕ) → g < length s.parts → place_of (length s.parts) g i ≡ Main g i
  in_main g i lt = ap (λ b. cond b (Main g i) (Closed i)) (lt-ltb g (length s.parts) lt)

  in_closed : (g i : ℕ) → length s.parts ≤ g → place_of (length s.parts) g i ≡ Closed i
  in_closed g i le = ap (λ b. cond b (Main g i) (Closed i)) (le-ltb g (length s.parts) le)

  pub row_is : (g i : ℕ) → g < length lists → row_at s (place_of (length s.parts) g i) ≡ row_in (slice_get lists g) i
  row_is g i small = elim (cases_lt g (length s.parts)) [
    | inl lt ↦ ap (row_at s) (in_main g i lt) ∙ ap (λ o. row_in o i) (sym (get-front s.parts (f.closed ∷ []) g lt))
    | inr le ↦
        let at : g ≡ length s.parts = omega (arith, le, small, many) in
        ap (row_at s) (in_closed g i le) ∙ ap (λ o. row_in o i) (f.is_closed ∙ sym (ap (slice_get (s.parts ++ f.closed ∷ [])) at ∙ get-pushed s.parts f.closed))
  ]

  -- a flag stands beside a row
  beside : (g i : ℕ) (b : Bool) → flag_at s.keep g i ≡ Some b → (r : StagedRow) × (row_at s (place_of (length s.parts) g i) ≡ Some r)
  beside g i b h = by (slice_get s.keep g) refl h
    where
      by : (o : Option (List Bool)) → slice_get s.keep g ≡ o → option_and_then (λ flags. slice_get flags i) o ≡ Some b → (r : StagedRow) × (row_at s (place_of (length s.parts) g i) ≡ Some r)
      by None is k = absurd (none_some b k)
      by (Some flags) is k =
          let rows = same_size s.keep lists g flags f.sizes is in
          let r = get-there rows.0 i (omega (arith, get-within flags i b k, rows.2)) in
          (r.0, row_is g i (get-within lists g rows.0 rows.1) ∙ ap (λ o. row_in o i) rows.1 ∙ r.1)

  -- and a row of these lists beside a flag
  flagged : (g i : ℕ) (r : StagedRow) → g < length lists → row_at s (place_of (length s.parts) g i) ≡ Some r → (b : Bool) × (flag_at s.keep g i ≡ Some b)
  flagged g i r small h = by (slice_get lists g) refl (sym (row_is g i small) ∙ h)
    where
      by : (o : Option (List StagedRow)) → slice_get lists g ≡ o → row_in o i ≡ Some r → (b : Bool) × (flag_at s.keep g i ≡ Some b)
      by None is k = absurd (none_some r k)
      by (Some rows) is k =
          let flags = same_size lists s.keep g rows (sym f.sizes) is in
          let b = get-there flags.0 i (omega (arith, get-within rows i r k, flags.2)) in
          (b.0, ap (option_and_then (λ (x : List Bool). slice_get x i)) flags.1 ∙ b.1)

  apart : (g m i k : ℕ) → g < length lists → m < length lists → place_of (length s.parts) g i ≡ place_of (length s.parts) m k → (g ≡ m) × (i ≡ k)
  apart g m i k gl ml e = elim (cases_lt g (length s.parts)) [
    | inl lt ↦ elim (cases_lt m (length s.parts)) [
      | inl lu ↦ let h = sym (in_main g i lt) ∙ e ∙ in_main m k lu in (ap part_of h, ap number_of h)
      | inr le ↦ absurd (kinds g i k (sym (in_main g i lt) ∙ e ∙ in_closed m k le))
    ]
    | inr le ↦ elim (cases_lt m (length s.parts)) [
      | inl lu ↦ absurd (kinds m k i (sym (in_main m k lu) ∙ sym e ∙ in_closed g i le))
      | inr lf ↦ (omega (arith, le, lf, gl, ml, many), ap number_of (sym (in_closed g i le) ∙ e ∙ in_closed m k lf))
    ]
  ]
    where
      part_of : Place → ℕ
      part_of (L1 x) = 0
      part_of (L2 x) = 0
      part_of (Closed x) = 0
      part_of (Main p x) = p

      number_of : Place → ℕ
      number_of (L1 x) = x
      number_of (L2 x) = x
      number_of (Closed x) = x
      number_of (Main p x) = x

      kinds : (p x y : ℕ) → Main p x ≡ Closed y → ⊥
      kinds p x y h = cc

  module _ (stay : ℕ) (fewer : stay ≤ length s.parts) where
    is_one : (g i : ℕ) → stay ≤ g → is_rebuilt stay (place_of (length s.parts) g i) ≡ true
    is_one g i le = elim (cases_lt g (length s.parts)) [
      | inl lt ↦ ap (is_rebuilt stay) (in_main g i lt) ∙ le-leb stay g le
      | inr ge ↦ ap (is_rebuilt stay) (in_closed g i ge)
    ]

    -- each rebuilt place is one of the lists'
    listed : (p : Place) (r : StagedRow) → row_at s p ≡ Some r → is_rebuilt stay p ≡ true → (g i : ℕ) × (p ≡ place_of (length s.parts) g i) × (g < length lists) × (stay ≤ g)
    listed (L1 i) r h is_so = absurd (true≢false (sym is_so))
    listed (L2 i) r h is_so = absurd (true≢false (sym is_so))
    listed (Closed i) r h is_so = (length s.parts, i, sym (in_closed (length s.parts) i (omega arith)), omega (arith, many), fewer)
    listed (Main p i) r h is_so =
        let lt : p < length s.parts = there (slice_get s.parts p) refl h in
        (p, i, sym (in_main p i lt), omega (arith, many, lt), leb-true stay p is_so)
      where
        there : (o : Option (List StagedRow)) → slice_get s.parts p ≡ o → row_in o i ≡ Some r → p < length s.parts
        there None is k = absurd (none_some r k)
        there (Some rows) is k = get-within s.parts p rows is

    left : stay + length (drop stay s.keep) ≤ length lists
    left = omega (arith, length-drop stay s.keep, sym (length-map s.keep length) ∙ ap length f.sizes ∙ length-map lists length, many, fewer)

    -- what a place of the kept ones is
    pub kept_of : (k : ℕ) (p : Place) → slice_get (kept_places stay s) k ≡ Some p → (g i : ℕ) × (p ≡ place_of (length s.parts) g i) × (flag_at s.keep g i ≡ Some true) × (stay ≤ g)
    kept_of k p at =
        let o = lists-of (place_of (length s.parts)) stay (drop stay s.keep) k p at in
        (stay + o.0, o.1, o.2, sym (flag-dropped stay s.keep o.0 o.1) ∙ o.3, omega arith)

    kept_at : (g i : ℕ) → stay ≤ g → flag_at s.keep g i ≡ Some true → (k : ℕ) × (slice_get (kept_places stay s) k ≡ Some (place_of (length s.parts) g i))
    kept_at g i le flag =
        let e : stay + (g - stay) ≡ g = omega (arith, le) in
        let o = lists-to (place_of (length s.parts)) stay (drop stay s.keep) (g - stay) i (flag-dropped stay s.keep (g - stay) i ∙ ap (λ n. flag_at s.keep n i) e ∙ flag) in
        (o.0, o.1 ∙ ap (λ n. Some (place_of (length s.parts) n i)) e)

    chosen : (p : Place) (g i : ℕ) → p ≡ place_of (length s.parts) g i → stay ≤ g → (b : Bool) → flag_at s.keep g i ≡ Some b → IsDropped s p ⊎ ((k : ℕ) × (slice_get (kept_places stay s) k ≡ Some p))
    chosen p g i is le false flag = inl (record { list = g; place = i; is = is; flag = flag })
    chosen p g i is le true flag = let o = kept_at g i le flag in inr (o.0, o.1 ∙ ap Some (sym is))

    pub kept_choice : IsChoice stay s (IsDropped s) (kept_places stay s)
    kept_choice = record {
      parts = fewer;
      rebuilt = λ k p at. let o = kept_of k p at in ap (is_rebuilt stay) o.2 ∙ is_one o.0 o.1 o.4;
      there = λ k p at.
          let o = kept_of k p at in
          let r = beside o.0 o.1 true o.3 in
          (r.0, ap (row_at s) o.2 ∙ r.1);
      all = λ p r at is_so.
          let l = listed p r at is_so in
          let b = flagged l.0 l.1 r l.3 (ap (row_at s) (sym l.2) ∙ at) in
          chosen p l.0 l.1 l.2 l.4 b.0 b.1;
      apart = lists-once (place_of (length s.parts)) (length lists) apart stay (drop stay s.keep) left;
    }
