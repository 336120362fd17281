-- The bytes of a dictionary: ascending keys in blocks of 16, each behind a block's first by what it shares.
use Rattle.std.specs.Prelude.{◌≡◌, ◌≢◌, ℕ, zero, suc, ◌+◌, ◌-◌, ◌/◌, ◌^◌, ◌<◌, ◌≤◌, nat_eq, if◌then◌else◌, List, [], ◌∷◌, ◌++◌, length, take, drop}
use Rattle.std.specs.Int.{to_le_bytes, w32}
use Rattle.ut_key.specs.Keys.{AreShort, IsAscending}

-- keys that a dictionary can hold
pub record IsDictionary (keys : List (List ℕ)) : Type 0 where
  pub ascending : IsAscending keys
  pub short : AreShort keys
  pub few : length keys < 2 ^ 31

-- how many first bytes two keys share
abbrev pub shared : List ℕ → List ℕ → ℕ
shared [] ys = 0
shared (x ∷ xs) [] = 0
shared (x ∷ xs) (y ∷ ys) = if nat_eq x y then suc (shared xs ys) else 0

-- a key behind another: how many first bytes they share, how many follow, and those
abbrev pub key_bytes : List ℕ → List ℕ → List ℕ
key_bytes before key = shared before key ∷ (length key - shared before key) ∷ drop (shared before key) key

-- the keys behind another
abbrev pub rest_bytes : List ℕ → List (List ℕ) → List ℕ
rest_bytes before [] = []
rest_bytes before (key ∷ keys) = key_bytes before key ++ rest_bytes key keys

-- a block: the length of its first key, that key, and the keys behind it
abbrev pub block_bytes : List (List ℕ) → List ℕ
block_bytes [] = []
block_bytes (key ∷ keys) = length key ∷ (key ++ rest_bytes key keys)

-- m blocks of 16 keys, the last perhaps of fewer
abbrev pub blocks_bytes : ℕ → List (List ℕ) → List ℕ
blocks_bytes zero keys = []
blocks_bytes (suc m) keys = block_bytes (take 16 keys) ++ blocks_bytes m (drop 16 keys)

-- a dictionary: the number of its keys in four bytes, the lowest first, and its blocks
abbrev pub dict_bytes : List (List ℕ) → List ℕ
dict_bytes keys = to_le_bytes w32 (length keys) ++ blocks_bytes ((length keys + 15) / 16) keys

-- the bytes begin with those of no dictionary
abbrev pub SpellsNone : List ℕ → Type 0
SpellsNone bytes = (keys : List (List ℕ)) (rest : List ℕ) → IsDictionary keys → bytes ≢ dict_bytes keys ++ rest

-- the first bytes, so many, are those of a dictionary of these keys
pub record Spells (bytes : List ℕ) (keys : List (List ℕ)) (taken : ℕ) : Type 0 where
  pub within : taken ≤ length bytes
  pub same : take taken bytes ≡ dict_bytes keys
