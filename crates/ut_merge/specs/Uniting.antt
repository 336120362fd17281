-- The own dictionary of a column as it is put together: first of the closed stage's keys, then of each part that is rebuilt.
use Rattle.std.specs.Prelude.{◌≡◌, ◌≢◌, ◌⊎◌, ◌↔◌, ℕ, ◌+◌, ◌<◌, ◌≤◌, Bool, true, false, not, ◌&&◌, List, [], ◌∷◌, ◌++◌, length, map, get_or, Option, Some, None}
use Rattle.ut_key.specs.Keys.{IsAscending}
use Rattle.ut_own.specs.Own.{In, holds, used}
use Rattle.ut_dictmerge.specs.Merge.{places}
use Rattle.ut_merge.specs.declared.uniting.United.{United}

-- which keys are used and stand in no dictionary that stays, by which are used
abbrev pub new_flags : List (List ℕ) → List (List ℕ) → List Bool → List Bool
new_flags stay [] flags = []
new_flags stay (key ∷ keys) [] = []
new_flags stay (key ∷ keys) (flag ∷ flags) = (flag && not (holds stay key)) ∷ new_flags stay keys flags

-- a used key that stands in a dictionary that stays has its code there
abbrev pub IsFound : List (List ℕ) → List ℕ → Bool → Option ℕ → Type 0
IsFound stay key flag entry = flag ≡ true → holds stay key ≡ true → (c : ℕ) × (entry ≡ Some c) × (c < length stay) × (get_or stay c [] ≡ key)

-- each of the used keys has
abbrev pub AreFound : List (List ℕ) → List (List ℕ) → List Bool → List (Option ℕ) → Type 0
AreFound stay keys flags found = (i : ℕ) → i < length keys → IsFound stay (get_or keys i []) (get_or flags i false) (get_or found i None)

-- a dictionary of the flagged keys of parts' dictionaries and of the closed stage, and for each of these keys its place
pub record IsUnited (parts : List (List ℕ)) (used_parts : List Bool) (closed : List (List ℕ)) (new : List Bool) (keys : List (List ℕ)) (from_parts from_closed : List (Option ℕ)) : Type 0 where
  pub ascending : IsAscending keys
  pub exactly : (key : List ℕ) → In key keys ↔ (In key (used parts used_parts) ⊎ In key (used closed new))
  pub places_parts : from_parts ≡ places keys parts used_parts
  pub places_closed : from_closed ≡ places keys closed new
  pub few : length keys ≤ length parts + length closed

-- where a map leads from an entry
abbrev pub led : List (Option ℕ) → Option ℕ → Option ℕ
led to (Some p) = get_or to p None
led to None = None

-- a place behind so many other keys
abbrev pub behind : ℕ → Option ℕ → Option ℕ
behind start (Some p) = Some (start + p)
behind start None = None

-- the place behind so many other keys, where there is one, else what was found
abbrev pub chosen : ℕ → Option ℕ → Option ℕ → Option ℕ
chosen start (Some p) code = Some (start + p)
chosen start None code = code

abbrev pub chosen_all : ℕ → List (Option ℕ) → List (Option ℕ) → List (Option ℕ)
chosen_all start [] found = []
chosen_all start (place ∷ places) [] = []
chosen_all start (place ∷ places) (code ∷ found) = chosen start place code ∷ chosen_all start places found

-- the new codes of old ones, which counted through the keys of the parts' dictionaries and of the closed stage, behind so many keys that stay
abbrev pub entries_of : ℕ → List (Option ℕ) → List (Option ℕ) → List (Option ℕ) → List (Option ℕ)
entries_of start from_parts from_closed found = map (behind start) from_parts ++ chosen_all start from_closed found

-- with one dictionary more
abbrev pub AddsDict : List (List ℕ) → List Bool → United → United → Type 0
AddsDict dict flags old new = (parts : List (List ℕ)) (used_parts : List Bool) (closed : List (List ℕ)) (fresh : List Bool) → length used_parts ≡ length parts
    → IsUnited parts used_parts closed fresh old.keys old.parts.items old.closed.items → IsUnited (parts ++ dict) (used_parts ++ flags) closed fresh new.keys new.parts.items new.closed.items

-- a place, if there is one, is at most so great
abbrev pub IsUpTo : ℕ → Option ℕ → Type 0
IsUpTo n (Some p) = p ≤ n
IsUpTo n None = Unit {0}

-- a place of a code among codes, where there is one
abbrev pub IsPlaceIn : List ℕ → ℕ → Option ℕ → Type 0
IsPlaceIn codes code (Some p) = (p < length codes) × (get_or codes p 0 ≡ code)
IsPlaceIn codes code None = (p : ℕ) → p < length codes → get_or codes p 0 ≢ code
