-- Rows of a small table whose ids are below a number.
use Rattle.std.specs.Prelude.{ℕ, ◌≡◌, ◌<◌, None, Some}
use Rattle.ut_stamps.specs.declared.place.Place.{Place}
use Rattle.ut_exact.specs.Places.{StagedRow}
use Rattle.ut_staged.specs.Staged.{Staged, row_at, count_of}

-- each id stands in one place, and fewer rows than the number stand outside main
pub record AreNumbered (next : ℕ) (s : Staged) : Type 0 where
  pub below : (p : Place) (row : StagedRow) → row_at s p ≡ Some row → row.id < next
  pub once : (p q : Place) (a b : StagedRow) → row_at s p ≡ Some a → row_at s q ≡ Some b → a.id ≡ b.id → p ≡ q
  pub few : count_of s < next

-- the same, and no merge is pending
pub record IsAtRest (next : ℕ) (s : Staged) : Type 0 where
  pub numbered : AreNumbered next s
  pub idle : s.merge ≡ None
  pub unclosed : s.closed ≡ None
