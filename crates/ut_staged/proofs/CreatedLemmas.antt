-- A table more has no rows, and changes no place of the others.
use Rattle.std.proofs.Common.{ℕ, ◌≡◌, List, [], ◌∷◌, ◌++◌, Option, None, Some, refl, sym, ap, ◌∙◌, slice_get}
use Rattle.std.specs.Option.{option_and_then}
use Rattle.ut_value.specs.declared.value.Column.{Column}
use Rattle.ut_stamps.specs.declared.place.Place.{Place}
use Rattle.ut_stamps.specs.declared.place.Place.TheVariants.{L1, L2, Closed, Main}
use Rattle.ut_exact.specs.Places.{StagedRow, Moved}
use Rattle.ut_staged.specs.Staged.{Staged, no_rows, row_at}
use Rattle.ut_staged.specs.Tables.{place_at}
use Rattle.ut_staged.proofs.ListLemmas.{InPushed, Last, Before, in_pushed, none_some, get-appended}

-- an empty table holds no row
empty_place : (columns : List Column) (q : Place) (r : StagedRow) → row_at (no_rows columns) q ≡ Some r → ⊥
empty_place columns (L1 i) r h = none_some r h
empty_place columns (L2 i) r h = none_some r h
empty_place columns (Closed i) r h = none_some r h
empty_place columns (Main p i) r h = none_some r h

pub created_moved : (staged : List Staged) (columns : List Column) → Moved (place_at staged) (place_at (staged ++ no_rows columns ∷ [])) (λ m q. q)
created_moved staged columns = record {
  each = λ m q r h. before m q r (slice_get (staged ++ no_rows columns ∷ []) m) refl h;
  all = λ m q r h. (q, refl, behind m q r (slice_get staged m) refl h);
  apart = λ m p q r s hp hq e. e;
}
  where
    before : (m : ℕ) (q : Place) (r : StagedRow) (o : Option Staged) → slice_get (staged ++ no_rows columns ∷ []) m ≡ o → option_and_then (λ s. row_at s q) (slice_get (staged ++ no_rows columns ∷ []) m) ≡ Some r → place_at staged m q ≡ Some r
    before m q r None is h = absurd (none_some r (sym (ap (λ o. option_and_then (λ s. row_at s q) o) is) ∙ h))
    before m q r (Some s) is h = by (in_pushed staged (no_rows columns) m s is)
      where
        there : row_at s q ≡ Some r
        there = sym (ap (λ o. option_and_then (λ x. row_at x q) o) is) ∙ h

        by : InPushed staged (no_rows columns) m s → place_at staged m q ≡ Some r
        by (Last at same) = absurd (empty_place columns q r (sym (ap (λ x. row_at x q) same) ∙ there))
        by (Before was) = ap (λ o. option_and_then (λ x. row_at x q) o) was ∙ there

    behind : (m : ℕ) (q : Place) (r : StagedRow) (o : Option Staged) → slice_get staged m ≡ o → place_at staged m q ≡ Some r → place_at (staged ++ no_rows columns ∷ []) m q ≡ Some r
    behind m q r None is h = absurd (none_some r (sym (ap (λ o. option_and_then (λ s. row_at s q) o) is) ∙ h))
    behind m q r (Some s) is h = ap (λ o. option_and_then (λ x. row_at x q) o) (get-appended staged (no_rows columns ∷ []) m s is) ∙ sym (ap (λ o. option_and_then (λ x. row_at x q) o) is) ∙ h
