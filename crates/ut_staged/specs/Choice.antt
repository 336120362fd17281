-- The old places of a new part: each place that is kept, once, in any order.
use Rattle.std.specs.Prelude.{ℕ, suc, ◌≤◌, ◌≡◌, ◌⊎◌, Bool, true, false, cond, nat_lt, if◌then◌else◌, List, [], ◌∷◌, ◌++◌, length, map, drop, get_or, Option, Some, slice_get}
use Rattle.std.specs.Option.{option_and_then}
use Rattle.ut_exact.specs.Places.{StagedRow}
use Rattle.ut_stamps.specs.declared.place.Place.{Place}
use Rattle.ut_stamps.specs.declared.place.Place.TheVariants.{L1, L2, Closed, Main}
use Rattle.ut_staged.specs.Staged.{Staged, row_at, is_rebuilt}

-- the old places of a new part, in its order: all that aren't dropped, none of them twice
pub record IsChoice (stay : ℕ) (s : Staged) (dropped : Place → Type 0) (olds : List Place) : Type 0 where
  pub parts : stay ≤ length s.parts
  pub rebuilt : (i : ℕ) (p : Place) → slice_get olds i ≡ Some p → is_rebuilt stay p ≡ true
  pub there : (i : ℕ) (p : Place) → slice_get olds i ≡ Some p → (r : StagedRow) × (row_at s p ≡ Some r)
  pub all : (p : Place) (r : StagedRow) → row_at s p ≡ Some r → is_rebuilt stay p ≡ true
      → dropped p ⊎ ((i : ℕ) × (slice_get olds i ≡ Some p))
  pub apart : (i k : ℕ) (p : Place) → slice_get olds i ≡ Some p → slice_get olds k ≡ Some p → i ≡ k

-- where the row of a place stood before the switch
abbrev pub back : ℕ → List Place → Place → Place
back stay olds (L1 i) = L1 i
back stay olds (L2 i) = L2 i
back stay olds (Closed i) = Closed i
back stay olds (Main p i) = cond (nat_lt p stay) (Main p i) (get_or olds i (L1 0))

-- ---- the kept places in their old order

-- the places with a flag, of a list whose places are these
abbrev pub kept_from : (ℕ → Place) → ℕ → List Bool → List Place
kept_from at i [] = []
kept_from at i (flag ∷ flags) = if flag then at i ∷ kept_from at (suc i) flags else kept_from at (suc i) flags

-- the same of lists, one behind the other
abbrev pub kept_lists : (ℕ → ℕ → Place) → ℕ → List (List Bool) → List Place
kept_lists at g [] = []
kept_lists at g (flags ∷ keep) = kept_from (at g) 0 flags ++ kept_lists at (suc g) keep

-- place i of list g: of a part, or behind all parts of the closed stage
abbrev pub place_of : ℕ → ℕ → ℕ → Place
place_of parts g i = cond (nat_lt g parts) (Main g i) (Closed i)

-- the places that are kept, of the parts behind the first, so many, and of the closed stage
abbrev pub kept_places : ℕ → Staged → List Place
kept_places stay s = kept_lists (place_of (length s.parts)) stay (drop stay s.keep)

-- the flag of place i of list g
abbrev pub flag_at : List (List Bool) → ℕ → ℕ → Option Bool
flag_at keep g i = option_and_then (λ flags. slice_get flags i) (slice_get keep g)

-- The flags of a pending merge: one for each place of main and of the closed stage.
pub record AreFlags (s : Staged) : Type 0 where
  pub closed : List StagedRow
  pub is_closed : s.closed ≡ Some closed
  pub sizes : map length s.keep ≡ map length (s.parts ++ closed ∷ [])

-- the place's flag says that it isn't kept
pub record IsDropped (s : Staged) (p : Place) : Type 0 where
  pub list : ℕ
  pub place : ℕ
  pub is : p ≡ place_of (length s.parts) list place
  pub flag : flag_at s.keep list place ≡ Some false
