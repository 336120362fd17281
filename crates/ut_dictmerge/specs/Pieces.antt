-- The piece of a merge between two cuts, and the steps in which it is walked through.
use Rattle.std.specs.Prelude.{◌≡◌, ℕ, ◌+◌, ◌-◌, ◌≤◌, ◌<◌, List, [], ◌∷◌, length, get_or, Bool, true, false, Option, Some, None}
use Rattle.std.specs.declared.cmp.Ordering.{Ordering}
use Rattle.std.specs.declared.cmp.Ordering.TheVariants.{Less, Equal, Greater}
use Rattle.ut_key.specs.Keys.{key_cmp}
use Rattle.ut_recode.specs.Spans.{span}
use Rattle.ut_dictmerge.specs.declared.cut.Cut.{Cut}
use Rattle.ut_dictmerge.specs.Merge.{merged}
use Rattle.ut_dictmerge.specs.Cuts.{cut_at}

-- the used keys between two cuts, each once
abbrev pub between : List (List ℕ) → List Bool → List (List ℕ) → List Bool → Cut → Cut → List (List ℕ)
between a used_a b used_b from to = merged (span from.a to.a a) (span from.a to.a used_a) (span from.b to.b b) (span from.b to.b used_b)

-- the used keys in front of a cut
abbrev pub front : List (List ℕ) → List Bool → List (List ℕ) → List Bool → Cut → List (List ℕ)
front a used_a b used_b to = between a used_a b used_b record { a = 0; b = 0 } to

-- one cut stands behind another, within the lists
pub record AreBorders (a b : List (List ℕ)) (from to : Cut) : Type 0 where
  pub from_a : from.a ≤ to.a
  pub from_b : from.b ≤ to.b
  pub to_a : to.a ≤ length a
  pub to_b : to.b ≤ length b

-- an entry is the place of its key among the keys of a piece, the first of which has the place base
abbrev pub IsPlace : ℕ → List (List ℕ) → List ℕ → Bool → Option ℕ → Type 0
IsPlace base keys key true (Some p) = (base ≤ p) × (p < base + length keys) × (get_or keys (p - base) [] ≡ key)
IsPlace base keys key true None = ⊥
IsPlace base keys key false entry = entry ≡ None

-- the entries of the keys of a list from one place on
abbrev pub ArePlaces : ℕ → List (List ℕ) → List (List ℕ) → List Bool → ℕ → List (Option ℕ) → Type 0
ArePlaces base keys list flags from entries =
    (i : ℕ) → i < length entries
    → IsPlace base keys (get_or list (from + i) []) (get_or flags (from + i) false) (get_or entries i None)

-- what a piece holds, whose first key has the place base
pub record IsPiece
    (a : List (List ℕ)) (used_a : List Bool) (b : List (List ℕ)) (used_b : List Bool) (from to : Cut) (base : ℕ)
    (keys : List (List ℕ)) (from_a from_b : List (Option ℕ)) : Type 0 where
  pub keys_are : keys ≡ between a used_a b used_b from to
  pub size_a : length from_a ≡ to.a - from.a
  pub size_b : length from_b ≡ to.b - from.b
  pub places_a : ArePlaces base keys a used_a from.a from_a
  pub places_b : ArePlaces base keys b used_b from.b from_b

-- what the piece behind cut k holds
abbrev pub IsPart : List (List ℕ) → List Bool → List (List ℕ) → List Bool → List Cut → ℕ → List (List ℕ)
    → List (Option ℕ) → List (Option ℕ) → Type 0
IsPart a used_a b used_b cuts k =
    IsPiece a used_a b used_b (cut_at cuts k) (cut_at cuts (k + 1)) (length (front a used_a b used_b (cut_at cuts k)))

-- the entries of all keys of both lists
pub record AreMaps
    (a : List (List ℕ)) (used_a : List Bool) (b : List (List ℕ)) (used_b : List Bool) (keys : List (List ℕ))
    (from_a from_b : List (Option ℕ)) : Type 0 where
  pub size_a : length from_a ≡ length a
  pub size_b : length from_b ≡ length b
  pub places_a : ArePlaces 0 keys a used_a 0 from_a
  pub places_b : ArePlaces 0 keys b used_b 0 from_b

-- which list has the next key, by the places in both
abbrev pub IsNext : Ordering → List (List ℕ) → ℕ → ℕ → List (List ℕ) → ℕ → ℕ → Type 0
IsNext Less a i to_a b j to_b = (i < to_a) × (j < to_b → key_cmp (get_or a i []) (get_or b j []) ≡ Less)
IsNext Equal a i to_a b j to_b = (i < to_a) × (j < to_b) × (key_cmp (get_or a i []) (get_or b j []) ≡ Equal)
IsNext Greater a i to_a b j to_b = (j < to_b) × (i < to_a → key_cmp (get_or a i []) (get_or b j []) ≡ Greater)

-- a key, if it is used
abbrev pub kept : Bool → List ℕ → List (List ℕ)
kept true key = key ∷ []
kept false key = []

-- the entry of a key
abbrev pub entry_of : Bool → ℕ → Option ℕ
entry_of true place = Some place
entry_of false place = None

-- the sum of counts
abbrev pub total : List ℕ → ℕ
total [] = 0
total (x ∷ xs) = x + total xs
