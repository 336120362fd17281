-- The places of each code, and how many more fit.
use Rattle.std.specs.Prelude.{ℕ, List, [], length, get_or, ◌-◌}
use Rattle.smallvec.specs.SmallVec.{SmallVec}

-- the places of a code, and how many more fit
pub record Posting : Type 0 where
  pub places : List ℕ
  pub room : ℕ

-- what a list stands for
abbrev pub posting_of : SmallVec ℕ → Posting
posting_of v = record { places = v.items; room = v.capacity - length v.items }

-- a code that has no list
abbrev pub none : Posting
none = record { places = []; room = 0 }

-- the places of a code
abbrev pub places_at : List Posting → ℕ → List ℕ
places_at p c = (get_or p c none).places

-- how many more places of a code fit
abbrev pub room_at : List Posting → ℕ → ℕ
room_at p c = (get_or p c none).room
