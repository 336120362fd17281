-- Reading keys out of blocks, and what a dictionary's bytes and the starts of its blocks keep.
use Rattle.std.specs.Prelude.{◌≡◌, ◌≢◌, ℕ, ℤ, zero, suc, ◌+◌, ◌-◌, ◌/◌, ◌%◌, ◌^◌, ◌<◌, ◌≤◌, min, nat_eq, if◌then◌else◌, List, [], ◌∷◌, ◌++◌, length, take, drop, get_or}
use Rattle.std.specs.declared.cmp.Ordering.TheVariants.{Less}
use Rattle.ut_key.specs.Keys.{AreShort, IsAscending, key_cmp}
use Rattle.ut_prefix.specs.Spelling.{key_bytes, block_bytes, blocks_bytes}
use Rattle.ut_prefix.specs.Totals.{IsTotal}

-- the key behind another: the first bytes of that one, and those that follow
abbrev pub next_key : List ℕ → List ℕ → List ℕ
next_key key bytes = take (get_or bytes 0 0) key ++ take (get_or bytes 1 0) (drop 2 bytes)

-- what stands behind the next key
abbrev pub after_key : List ℕ → List ℕ
after_key bytes = drop (2 + get_or bytes 1 0) bytes

-- the first key of a block
abbrev pub first_key : List ℕ → List ℕ
first_key bytes = take (get_or bytes 0 0) (drop 1 bytes)

-- what stands behind a block's first key
abbrev pub after_first : List ℕ → List ℕ
after_first bytes = drop (1 + get_or bytes 0 0) bytes

-- a key and the n keys behind it
abbrev pub decoded : ℕ → List ℕ → List ℕ → List (List ℕ)
decoded zero key bytes = key ∷ []
decoded (suc n) key bytes = key ∷ decoded n (next_key key bytes) (after_key bytes)

-- the keys of a block of n
abbrev pub block_keys : ℕ → List ℕ → List (List ℕ)
block_keys zero bytes = []
block_keys (suc n) bytes = decoded n (first_key bytes) (after_first bytes)

-- the keys of all blocks, which begin at starts, n keys in all
abbrev pub keys_of : List ℕ → ℕ → List ℕ → List (List ℕ)
keys_of [] n bytes = []
keys_of (start ∷ starts) n bytes = block_keys (min 16 n) (drop start bytes) ++ keys_of starts (n - 16) bytes

-- n more keys can be read behind a key
abbrev pub CanDecode : ℕ → List ℕ → List ℕ → Type 0
CanDecode zero key bytes = Unit {0}
CanDecode (suc n) key bytes =
    (2 ≤ length bytes) × (get_or bytes 0 0 ≤ length key) × (2 + get_or bytes 1 0 ≤ length bytes) × (get_or bytes 0 0 + get_or bytes 1 0 ≤ 255)
    × CanDecode n (next_key key bytes) (after_key bytes)

-- a block of n keys can be read
abbrev pub IsBlock : ℕ → List ℕ → Type 0
IsBlock zero bytes = Unit {0}
IsBlock (suc n) bytes = (1 + get_or bytes 0 0 ≤ length bytes) × (get_or bytes 0 0 ≤ 255) × (1 ≤ length bytes) × CanDecode n (first_key bytes) (after_first bytes)

-- the blocks that begin at these places can be read, n keys in all
abbrev pub AreBlocks : List ℕ → ℕ → List ℕ → Type 0
AreBlocks [] n bytes = Unit {0}
AreBlocks (start ∷ starts) n bytes = (start ≤ length bytes) × IsBlock (min 16 n) (drop start bytes) × AreBlocks starts (n - 16) bytes

-- what the blocks of a dictionary of n keys keep
pub record IsLaidOut (starts : List ℕ) (n : ℕ) (bytes : List ℕ) : Type 0 where
  pub count : length starts ≡ (n + 15) / 16
  pub size : n < 2 ^ 31
  pub blocks : AreBlocks starts n bytes
  pub ascending : IsAscending (keys_of starts n bytes)
  pub spelled : bytes ≡ blocks_bytes ((n + 15) / 16) (keys_of starts n bytes)

-- what a dictionary of n keys keeps, and the sum of their numbers
pub record IsKept (starts : List ℕ) (n : ℕ) (bytes : List ℕ) (total : ℤ) : Type 0 where
  pub laid : IsLaidOut starts n bytes
  pub sum : IsTotal (keys_of starts n bytes) total

-- the bytes of key i of all, behind another: whole where it is its block's first
abbrev pub entry : ℕ → List ℕ → List ℕ → List ℕ
entry i before key = if nat_eq (i % 16) 0 then length key ∷ key else key_bytes before key

-- the bytes of the keys from place i on, behind another
abbrev pub entries : ℕ → List ℕ → List (List ℕ) → List ℕ
entries i before [] = []
entries i before (key ∷ keys) = entry i before key ++ entries (suc i) key keys

-- the bytes begin with key i, which stands above the key before it
pub record IsEntry (i : ℕ) (before key bytes rest : List ℕ) : Type 0 where
  pub short : length key ≤ 255
  pub above : i ≢ 0 → key_cmp before key ≡ Less
  pub spelled : bytes ≡ entry i before key ++ rest

-- the bytes begin with no key i behind this one
abbrev pub IsNoEntry : ℕ → List ℕ → List ℕ → Type 0
IsNoEntry i before bytes = (key rest : List ℕ) → ¬ IsEntry i before key bytes rest

-- where m blocks of keys start, the first at a place
abbrev pub starts_of : ℕ → ℕ → List (List ℕ) → List ℕ
starts_of zero at keys = []
starts_of (suc m) at keys = at ∷ starts_of m (at + length (block_bytes (take 16 keys))) (drop 16 keys)

-- a key of the first bytes of another, so many, and of the rest is above it, shares no more with it, and is short enough
pub record CanFollow (before : List ℕ) (count : ℕ) (rest : List ℕ) : Type 0 where
  pub some : 0 < length rest
  pub within : count ≤ length before
  pub short : count + length rest ≤ 255
  pub above : count < length before → get_or before count 0 < get_or rest 0 0

-- n ascending, short keys were read from the first bytes, so many, and where their blocks start and the sum of their numbers were noted
pub record IsRead (n : ℕ) (bytes starts : List ℕ) (taken : ℕ) (total : ℤ) (keys : List (List ℕ)) : Type 0 where
  pub count : length keys ≡ n
  pub ascending : IsAscending keys
  pub short : AreShort keys
  pub within : taken ≤ length bytes
  pub spelled : take taken bytes ≡ entries 0 [] keys
  pub begins : starts ≡ starts_of ((n + 15) / 16) 0 keys
  pub sum : IsTotal keys total
