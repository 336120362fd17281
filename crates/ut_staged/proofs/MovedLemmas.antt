-- Rows that move from the first stage to the second keep their places apart.
use Rattle.std.proofs.Common.{ℕ, ◌+◌, ◌-◌, ◌<◌, ◌≤◌, ◌≡◌, inl, inr, cond, List, ◌++◌, length, map, take, Some, refl, sym, ap, ◌∙◌, arith, nat_lt, slice_get, slice_set}
use Rattle.std.proofs.lemmas.Bool.{cases_lt, lt-ltb, le-ltb}
use Rattle.std.proofs.lemmas.List.{map-append}
use Rattle.ut_plain.specs.Stages.{moved}
use Rattle.ut_stamps.specs.declared.place.Place.{Place}
use Rattle.ut_stamps.specs.declared.place.Place.TheVariants.{L1, L2, Closed, Main}
use Rattle.ut_exact.specs.Places.{StagedRow, Moved}
use Rattle.ut_staged.specs.Staged.{Staged, row_at, placed_of, stages_of, merged_l1}
use Rattle.ut_staged.specs.Tables.{place_at, moved_in}
use Rattle.ut_staged.proofs.ListLemmas.{none_some, get-within, get-appended, get-front, get-drop, get-behind, get-take, get-take_past, map-take, map-drop}
use Rattle.ut_staged.proofs.TableLemmas.{moved_among}

-- where the row of a place stood before
abbrev pub back : ℕ → ℕ → Place → Place
back n l2 (L1 i) = L1 (n + i)
back n l2 (L2 i) = cond (nat_lt i l2) (L2 i) (L1 (i - l2))
back n l2 (Closed i) = Closed i
back n l2 (Main p i) = Main p i

in_front : (n l2 i : ℕ) → i < l2 → back n l2 (L2 i) ≡ L2 i
in_front n l2 i h = ap (λ b. cond b (L2 i) (L1 (i - l2))) (lt-ltb i l2 h)

behind : (n l2 i : ℕ) → l2 ≤ i → back n l2 (L2 i) ≡ L1 (i - l2)
behind n l2 i h = ap (λ b. cond b (L2 i) (L1 (i - l2))) (le-ltb i l2 h)

-- a row behind the second stage stood among the first n of the first
second_row : (n : ℕ) (s : Staged) (i : ℕ) → length s.l2 ≤ i → slice_get (s.l2 ++ take n s.l1) i ≡ slice_get (take n s.l1) (i - length s.l2)
second_row n s i le = let e : i ≡ length s.l2 + (i - length s.l2) = omega arith in ap (slice_get (s.l2 ++ take n s.l1)) e ∙ get-behind s.l2 (take n s.l1) (i - length s.l2)

in_first : (n : ℕ) (xs : List StagedRow) (i : ℕ) (r : StagedRow) → slice_get (take n xs) i ≡ Some r → i < n
in_first n xs i r h = elim (cases_lt i n) [ inl lt ↦ lt | inr ge ↦ absurd (none_some r (sym (get-take_past n xs i ge) ∙ h)) ]

module _ (n : ℕ) (s : Staged) where
  -- each place takes the row of the place before
  takes : (q : Place) (r : StagedRow) → row_at (merged_l1 n s) q ≡ Some r → row_at s (back n (length s.l2) q) ≡ Some r
  takes (L1 i) r h = sym (get-drop n s.l1 i) ∙ h
  takes (Closed i) r h = h
  takes (Main p i) r h = h
  takes (L2 i) r h = elim (cases_lt i (length s.l2)) [
    | inl lt ↦ ap (row_at s) (in_front n (length s.l2) i lt) ∙ sym (get-front s.l2 (take n s.l1) i lt) ∙ h
    | inr ge ↦
        let first : slice_get (take n s.l1) (i - length s.l2) ≡ Some r = sym (second_row n s i ge) ∙ h in
        ap (row_at s) (behind n (length s.l2) i ge) ∙ sym (get-take n s.l1 (i - length s.l2) (in_first n s.l1 (i - length s.l2) r first)) ∙ first
  ]

  -- each row has a place
  gives : (q : Place) (r : StagedRow) → row_at s q ≡ Some r → (p : Place) × (back n (length s.l2) p ≡ q) × (row_at (merged_l1 n s) p ≡ Some r)
  gives (L1 i) r h = elim (cases_lt i n) [
    | inl lt ↦
        let at = length s.l2 + i in
        let same : at - length s.l2 ≡ i = omega arith in
        (L2 at, behind n (length s.l2) at (omega arith) ∙ ap L1 same, get-behind s.l2 (take n s.l1) i ∙ get-take n s.l1 i lt ∙ h)
    | inr ge ↦ let e : n + (i - n) ≡ i = omega arith in (L1 (i - n), ap L1 e, get-drop n s.l1 (i - n) ∙ ap (slice_get s.l1) e ∙ h)
  ]
  gives (Closed i) r h = (Closed i, refl, h)
  gives (Main p i) r h = (Main p i, refl, h)
  gives (L2 i) r h = (L2 i, in_front n (length s.l2) i (get-within s.l2 i r h), get-appended s.l2 (take n s.l1) i r h)

  -- where the row of a place goes
  abbrev forth : Place → Place
  forth (L1 i) = cond (nat_lt i n) (L2 (length s.l2 + i)) (L1 (i - n))
  forth (L2 i) = L2 i
  forth (Closed i) = Closed i
  forth (Main p i) = Main p i

  forth_back : (q : Place) (r : StagedRow) → row_at (merged_l1 n s) q ≡ Some r → forth (back n (length s.l2) q) ≡ q
  forth_back (L1 i) r h = let e : n + i - n ≡ i = omega arith in ap (λ b. cond b (L2 (length s.l2 + (n + i))) (L1 (n + i - n))) (le-ltb (n + i) n (omega arith)) ∙ ap L1 e
  forth_back (L2 i) r h = elim (cases_lt i (length s.l2)) [
    | inl lt ↦ ap forth (in_front n (length s.l2) i lt)
    | inr ge ↦
        let low : i - length s.l2 < n = in_first n s.l1 (i - length s.l2) r (sym (second_row n s i ge) ∙ h) in
        let e : length s.l2 + (i - length s.l2) ≡ i = omega (arith, ge) in
        ap forth (behind n (length s.l2) i ge) ∙ ap (λ b. cond b (L2 (length s.l2 + (i - length s.l2))) (L1 (i - length s.l2 - n))) (lt-ltb (i - length s.l2) n low) ∙ ap L2 e
  ]
  forth_back (Closed i) r h = refl
  forth_back (Main p i) r h = refl

  -- no two take the same
  differ : (p q : Place) (r u : StagedRow) → row_at (merged_l1 n s) p ≡ Some r → row_at (merged_l1 n s) q ≡ Some u → back n (length s.l2) p ≡ back n (length s.l2) q → p ≡ q
  differ p q r u hp hq e = sym (forth_back p r hp) ∙ ap forth e ∙ forth_back q u hq

pub moved_l1 : (staged : List Staged) (table n : ℕ) (s : Staged) → slice_get staged table ≡ Some s
    → Moved (place_at staged) (place_at (slice_set staged table (merged_l1 n s))) (moved_in table (back n (length s.l2)))
moved_l1 staged table n s is =
    moved_among staged table s (merged_l1 n s) (back n (length s.l2)) is (record {
      each = λ m q r h. takes n s q r h;
      all = λ m q r h. gives n s q r h;
      apart = λ m p q r u hp hq e. differ n s p q r u hp hq e;
    })

-- the plain store's move
pub stages-moved : (n : ℕ) (s : Staged) → stages_of (merged_l1 n s) ≡ moved n (stages_of s)
stages-moved n s =
    λ i. record (stages_of s) { l1 = map-drop placed_of n s.l1 i; l2 = (map-append placed_of s.l2 (take n s.l1) ∙ ap (λ x. map placed_of s.l2 ++ x) (map-take placed_of n s.l1)) i }
