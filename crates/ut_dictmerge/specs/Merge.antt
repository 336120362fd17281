-- The merge of two key lists: the used keys of both, each once, and the place of each key of either list.
use Rattle.std.specs.Prelude.{◌≡◌, ◌⊎◌, ◌↔◌, ℕ, suc, List, [], ◌∷◌, length, Bool, true, false, Option, Some, None}
use Rattle.std.specs.declared.cmp.Ordering.{Ordering}
use Rattle.std.specs.declared.cmp.Ordering.TheVariants.{Less, Equal, Greater}
use Rattle.ut_key.specs.Keys.{key_cmp, IsAscending}
use Rattle.ut_own.specs.Own.{In, used, union}

-- two lists that ascend, with a flag for each of their keys
pub record AreSources (a : List (List ℕ)) (used_a : List Bool) (b : List (List ℕ)) (used_b : List Bool) : Type 0 where
  pub ascending_a : IsAscending a
  pub ascending_b : IsAscending b
  pub flags_a : length used_a ≡ length a
  pub flags_b : length used_b ≡ length b

-- the used keys of both, each once
abbrev pub merged : List (List ℕ) → List Bool → List (List ℕ) → List Bool → List (List ℕ)
merged a used_a b used_b = union (used a used_a) (used b used_b)

-- where a key stands that is below, at or above the first one, by its place among the rest
abbrev pub place_behind : Ordering → ℕ → ℕ
place_behind Less rest = 0
place_behind Equal rest = 0
place_behind Greater rest = suc rest

-- the place of a key among ascending keys
abbrev pub place_of : List ℕ → List (List ℕ) → ℕ
place_of key [] = 0
place_of key (first ∷ rest) = place_behind (key_cmp key first) (place_of key rest)

-- for each key its place among all, where its flag is set, and none elsewhere
abbrev pub places : List (List ℕ) → List (List ℕ) → List Bool → List (Option ℕ)
places all [] flags = []
places all (key ∷ keys) [] = []
places all (key ∷ keys) (true ∷ flags) = Some (place_of key all) ∷ places all keys flags
places all (key ∷ keys) (false ∷ flags) = None ∷ places all keys flags

-- what a merge gives
pub record IsMerge
    (a : List (List ℕ)) (used_a : List Bool) (b : List (List ℕ)) (used_b : List Bool) (keys : List (List ℕ))
    (from_a from_b : List (Option ℕ)) : Type 0 where
  pub keys_are : keys ≡ merged a used_a b used_b
  pub ascending : IsAscending keys
  pub exactly : (key : List ℕ) → In key keys ↔ (In key (used a used_a) ⊎ In key (used b used_b))
  pub places_a : from_a ≡ places keys a used_a
  pub places_b : from_b ≡ places keys b used_b
