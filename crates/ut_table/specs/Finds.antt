-- What a scan of a table finds.
use Rattle.std.specs.Prelude.{ℕ, ◌≡◌, true, List, length, map, Option, Some, IsSome, All}
use Rattle.ut_plain.specs.declared.statement.Pred.{Pred}
use Rattle.ut_plain.specs.declared.table.Stored.{Stored}
use Rattle.ut_plain.specs.Condition.{meets}
use Rattle.ut_stamps.specs.declared.fates.Fate.{Fate}
use Rattle.ut_stamps.specs.Stamps.{sees}
use Rattle.ut_stamps.specs.declared.place.Place.{Place}
use Rattle.ut_scan.specs.declared.place.Found.{Found}
use Rattle.ut_exact.specs.Places.{StagedRow}
use Rattle.ut_exact.specs.Scan.{IsScan, stored_in}
use Rattle.ut_staged.specs.Staged.{Staged, row_at}

-- no two places hold a seen row of one id
pub record SeenOnce (s : Staged) (fates : List Fate) (snapshot : ℕ) (own : Option ℕ) : Type 0 where
  pub each : (p q : Place) (a b : StagedRow) → row_at s p ≡ Some a → row_at s q ≡ Some b → sees fates snapshot own a.stamp ≡ true → sees fates snapshot own b.stamp ≡ true → a.id ≡ b.id → p ≡ q

-- what was found, as ids with their places
abbrev pub hits_of : List Found → List (ℕ × Place)
hits_of found = map (λ (f : Found). (f.id, f.place)) found

-- By ascending id, exactly the places whose rows are seen and meet each comparison.
pub record Finds (s : Staged) (fates : List Fate) (snapshot : ℕ) (own : Option ℕ) (preds : List Pred) (found : List Found) : Type 0 where
  pub scan : IsScan (λ n p. row_at s p) 0 fates snapshot own (meets s.columns preds) (hits_of found)

-- so many places as a scan finds
pub record Counts (s : Staged) (fates : List Fate) (snapshot : ℕ) (own : Option ℕ) (preds : List Pred) (count : ℕ) : Type 0 where
  pub found : List Found
  pub finds : Finds s fates snapshot own preds found
  pub all : count ≡ length found

-- a row stands at each place
abbrev pub AreThere : Staged → List Found → Type 0
AreThere s found = All (λ (f : Found). IsSome (row_at s f.place)) found

-- the rows at these places, as the plain store has those of the table at place n
abbrev pub rows_at : ℕ → Staged → List Found → List (ℕ × Stored)
rows_at n s found = map (λ (f : Found). (f.id, stored_in n (row_at s f.place))) found
