-- A column: its cells, as codes of a dictionary in first-seen order.
use Rattle.std.specs.Prelude.{◌≡◌, ℕ, ◌<◌, ◌≤◌, ◌^◌, nat_eq, List, [], ◌∷◌, length, map, get_or}
use Rattle.std.specs.List.{position_or_len}
use Rattle.ut_unsorted.specs.FirstSeen.{key_eq, first_seen}
use Rattle.ut_unsorted.specs.Posted.{Posting, places_at}
use Rattle.ut_l2.specs.Places.{places_where}

-- the cells that codes stand for
abbrev pub cells_of : List (List ℕ) → List ℕ → List (List ℕ)
cells_of dict codes = map (λ c. get_or dict c []) codes

-- each code is the first place of its key
abbrev pub AreCodes : List (List ℕ) → List ℕ → Type 0
AreCodes dict [] = Unit {0}
AreCodes dict (c ∷ cs) = (c < length dict) × (position_or_len (key_eq (get_or dict c [])) dict ≡ c) × AreCodes dict cs

-- dictionary, codes and postings tell of the same cells
pub record IsColumn (dict : List (List ℕ)) (codes : List ℕ) (postings : List Posting) : Type 0 where
  pub seen : dict ≡ first_seen (cells_of dict codes)
  pub coded : AreCodes dict codes
  pub posted : (c : ℕ) → places_at postings c ≡ places_where (nat_eq c) codes
  pub count : length codes ≤ 2 ^ 31
