-- Parts and the closed stage are replaced by one new part of the places that are kept, in any order.
use Rattle.std.proofs.Common.{ℕ, ◌<◌, ◌≤◌, ◌≡◌, ◌⊎◌, inl, inr, true, false, cond, List, [], ◌∷◌, ◌++◌, take, get_or, Option, None, Some, refl, sym, ap, ◌∙◌, arith, slice_get, unwrap_or, true≢false}
use Rattle.std.proofs.lemmas.Bool.{cases_lt, lt-ltb, le-ltb, le-leb, lt-leb}
use Rattle.ut_exact.specs.Places.{StagedRow, Switched}
use Rattle.ut_stamps.specs.declared.place.Place.{Place}
use Rattle.ut_stamps.specs.declared.place.Place.TheVariants.{L1, L2, Closed, Main}
use Rattle.ut_staged.specs.Staged.{Staged, row_at, row_in, rows_at, no_row, switched, is_rebuilt}
use Rattle.ut_staged.specs.Choice.{IsChoice, back}
use Rattle.ut_staged.proofs.ListLemmas.{none_some, get-front, get-take, length-taken, get-last, get-pushed, get-map, get-mapped, get_or-is}

module _ (stay : ℕ) (s : Staged) (dropped : Place → Type 0) (olds : List Place) (c : IsChoice stay s dropped olds) where
  in_front : (p i : ℕ) → p < stay → row_at (switched stay olds s) (Main p i) ≡ row_at s (Main p i)
  in_front p i lt =
      ap (λ o. row_in o i) (get-front (take stay s.parts) (rows_at s olds ∷ []) p (omega (arith, lt, length-taken stay s.parts c.parts)) ∙ get-take stay s.parts p lt)

  behind : (p i : ℕ) (r : StagedRow) → stay ≤ p → row_at (switched stay olds s) (Main p i) ≡ Some r → (p ≡ stay) × (slice_get (rows_at s olds) i ≡ Some r)
  behind p i r le h = by (slice_get (take stay s.parts ++ rows_at s olds ∷ []) p) refl h
    where
      by : (o : Option (List StagedRow)) → slice_get (take stay s.parts ++ rows_at s olds ∷ []) p ≡ o → row_in o i ≡ Some r → (p ≡ stay) × (slice_get (rows_at s olds) i ≡ Some r)
      by None is g = absurd (none_some r g)
      by (Some rows) is g =
          let last = get-last (take stay s.parts) (rows_at s olds) rows p (omega (arith, le, length-taken stay s.parts c.parts)) is in
          (last.0 ∙ length-taken stay s.parts c.parts, ap (λ (x : List StagedRow). slice_get x i) last.1 ∙ g)

  there : (i : ℕ) (p : Place) (r : StagedRow) → slice_get olds i ≡ Some p → row_at s p ≡ Some r → row_at (switched stay olds s) (Main stay i) ≡ Some r
  there i p r at is =
      ap (λ o. row_in o i) (ap (slice_get (take stay s.parts ++ rows_at s olds ∷ [])) (sym (length-taken stay s.parts c.parts)) ∙ get-pushed (take stay s.parts) (rows_at s olds))
      ∙ get-map (λ q. unwrap_or (row_at s q) no_row) olds i p at ∙ ap (λ o. Some (unwrap_or o no_row)) is

  -- a place now is one that stays, or one of the new part
  data Origin (q : Place) (r : StagedRow) : Type 0 where
    Stays : is_rebuilt stay q ≡ false → back stay olds q ≡ q → row_at s q ≡ Some r → Origin q r
    New : (i : ℕ) → q ≡ Main stay i → slice_get olds i ≡ Some (back stay olds q) → row_at s (back stay olds q) ≡ Some r → Origin q r

  origin : (q : Place) (r : StagedRow) → row_at (switched stay olds s) q ≡ Some r → Origin q r
  origin (L1 i) r h = Stays refl refl h
  origin (L2 i) r h = Stays refl refl h
  origin (Closed i) r h = absurd (none_some r h)
  origin (Main p i) r h = elim (cases_lt p stay) [
    | inl lt ↦ Stays (lt-leb stay p lt) (ap (λ b. cond b (Main p i) (get_or olds i (L1 0))) (lt-ltb p stay lt)) (sym (in_front p i lt) ∙ h)
    | inr le ↦
        let b = behind p i r le h in
        let m = get-mapped (λ q. unwrap_or (row_at s q) no_row) olds i r b.1 in
        let stood = c.there i m.0 m.1 in
        let from : back stay olds (Main p i) ≡ m.0 = ap (λ x. cond x (Main p i) (get_or olds i (L1 0))) (le-ltb p stay le) ∙ get_or-is olds i m.0 (L1 0) m.1 in
        New i (ap (λ x. Main x i) b.0) (m.1 ∙ ap Some (sym from)) (ap (row_at s) from ∙ stood.1 ∙ ap Some (sym (ap (λ o. unwrap_or o no_row) stood.1) ∙ m.2))
  ]

  takes : (q : Place) (r : StagedRow) → row_at (switched stay olds s) q ≡ Some r → row_at s (back stay olds q) ≡ Some r
  takes q r h = by (origin q r h)
    where
      by : Origin q r → row_at s (back stay olds q) ≡ Some r
      by (Stays apart_from same is) = ap (row_at s) same ∙ is
      by (New i at old is) = is

  chosen : (q : Place) (r : StagedRow) → row_at s q ≡ Some r → is_rebuilt stay q ≡ true → dropped q ⊎ ((p : Place) × (back stay olds p ≡ q) × (row_at (switched stay olds s) p ≡ Some r))
  chosen q r h is_so = elim (c.all q r h is_so) [
    | inl d ↦ inl d
    | inr f ↦ inr (Main stay f.0, ap (λ b. cond b (Main stay f.0) (get_or olds f.0 (L1 0))) (le-ltb stay stay (omega arith)) ∙ get_or-is olds f.0 q (L1 0) f.1, there f.0 q r f.1 h)
  ]

  gives : (q : Place) (r : StagedRow) → row_at s q ≡ Some r → dropped q ⊎ ((p : Place) × (back stay olds p ≡ q) × (row_at (switched stay olds s) p ≡ Some r))
  gives (L1 i) r h = inr (L1 i, refl, h)
  gives (L2 i) r h = inr (L2 i, refl, h)
  gives (Closed i) r h = chosen (Closed i) r h refl
  gives (Main p i) r h = elim (cases_lt p stay) [
    | inl lt ↦ inr (Main p i, ap (λ b. cond b (Main p i) (get_or olds i (L1 0))) (lt-ltb p stay lt), in_front p i lt ∙ h)
    | inr le ↦ chosen (Main p i) r h (le-leb stay p le)
  ]

  differ : (p q : Place) (r u : StagedRow) → row_at (switched stay olds s) p ≡ Some r → row_at (switched stay olds s) q ≡ Some u → back stay olds p ≡ back stay olds q → p ≡ q
  differ p q r u hp hq e = by (origin p r hp) (origin q u hq)
    where
      by : Origin p r → Origin q u → p ≡ q
      by (Stays apart_from same is) (Stays other2 same2 is2) = sym same ∙ e ∙ same2
      by (Stays apart_from same is) (New k at old is2) = absurd (true≢false (sym (c.rebuilt k (back stay olds q) old) ∙ ap (is_rebuilt stay) (sym e ∙ same) ∙ apart_from))
      by (New i at old is) (Stays apart_from same is2) = absurd (true≢false (sym (c.rebuilt i (back stay olds p) old) ∙ ap (is_rebuilt stay) (e ∙ same) ∙ apart_from))
      by (New i at old is) (New k at2 old2 is2) = at ∙ ap (Main stay) (c.apart i k (back stay olds p) old (old2 ∙ ap Some (sym e))) ∙ sym at2

  -- of the one table
  pub switched_is : Switched (λ (n : ℕ) q. row_at s q) (λ n q. row_at (switched stay olds s) q) (λ n q. back stay olds q) (λ n q. dropped q)
  switched_is = record {
    each = λ m q r h. takes q r h;
    all = λ m q r h. gives q r h;
    apart = λ m p q r u hp hq e. differ p q r u hp hq e;
  }
