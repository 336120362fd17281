-- Numbers drawn in order.
use Rattle.std.specs.Prelude.{◌≡◌, ℕ, ◌<◌, Bool, true, false, List, [], ◌∷◌, ◌++◌, length, slice_index}

-- the numbers 0, 1 and so on
abbrev pub IsCount : List ℕ → Type 0
IsCount xs = (k : ℕ) → k < length xs → slice_index xs k ≡ k

-- the book and the drawer's list get the next number, or both stay
abbrev pub DrawsNext : Bool → List ℕ → List ℕ → List ℕ → List ℕ → Type 0
DrawsNext false book book' mine mine' = (book' ≡ book) × (mine' ≡ mine)
DrawsNext true book book' mine mine' =
    (book' ≡ book ++ length book ∷ []) × (mine' ≡ mine ++ length book ∷ [])
