-- The keys of all blocks.
use Rattle.std.proofs.Common.{◌≡◌, ℕ, zero, suc, ◌+◌, ◌-◌, ◌*◌, ◌/◌, ◌<◌, ◌≤◌, min, List, [], ◌∷◌, length, length-append, take, drop, get_or, sym, ◌∙◌, ap, subst, arith}
use Rattle.std.proofs.lemmas.List.{length-drop, length-take, take_all, get_or_append_left, get_or-append-add}
use Rattle.ut_prefix.specs.Reading.{next_key, after_key, first_key, after_first, decoded, block_keys, keys_of, CanDecode, IsBlock, AreBlocks}
use Rattle.ut_key.specs.Keys.{AreShort}
use Rattle.std.proofs.lemmas.List.Elements.{All-nil, All-cons, All-append}
use Rattle.ut_prefix.proofs.BlockLemmas.{length-block_keys, get_or-block_keys, IsBlock-fewer, nth}

pub take-rest : (k : ℕ) (xs : List ℕ) → take (length xs - k) (drop k xs) ≡ drop k xs
take-rest k xs = take_all (length xs - k) (drop k xs) (omega (arith, length-drop k xs))

pub length-keys_of : (starts : List ℕ) (n : ℕ) (bytes : List ℕ) → length starts ≡ (n + 15) / 16 → length (keys_of starts n bytes) ≡ n
length-keys_of [] n bytes e = omega arith
length-keys_of (s ∷ ss) n bytes e =
    let rest : length ss ≡ (n - 16 + 15) / 16 = omega arith in
    length-append (block_keys (min 16 n) (drop s bytes)) (keys_of ss (n - 16) bytes)
    ∙ (let a = length-block_keys (min 16 n) (drop s bytes) in let b = length-keys_of ss (n - 16) bytes rest in omega (arith, a, b))

pub block_at : (starts : List ℕ) (n : ℕ) (bytes : List ℕ) (b : ℕ) → AreBlocks starts n bytes → b < length starts
    → (get_or starts b 0 ≤ length bytes) × IsBlock (min 16 (n - 16 * b)) (drop (get_or starts b 0) bytes)
block_at [] n bytes b h lt = absurd (omega arith)
block_at (s ∷ ss) n bytes zero h lt = let e : n ≡ n - 16 * 0 = omega arith in (h.0, subst (λ (k : ℕ). IsBlock (min 16 k) (drop s bytes)) e h.1)
block_at (s ∷ ss) n bytes (suc b) h lt =
    let e : n - 16 - 16 * b ≡ n - 16 * suc b = omega arith in
    let at = block_at ss (n - 16) bytes b h.2 (omega arith) in
    (at.0, subst (λ (k : ℕ). IsBlock (min 16 k) (drop (get_or ss b 0) bytes)) e at.1)

pub get_or-keys_of : (starts : List ℕ) (n : ℕ) (bytes : List ℕ) (b i : ℕ) → length starts ≡ (n + 15) / 16 → i < min 16 (n - 16 * b)
    → get_or (keys_of starts n bytes) (16 * b + i) [] ≡ nth i (first_key (drop (get_or starts b 0) bytes)) (after_first (drop (get_or starts b 0) bytes))
get_or-keys_of [] n bytes b i e lt = absurd (omega arith)
get_or-keys_of (s ∷ ss) n bytes zero i e lt =
    let at : 16 * 0 + i ≡ i = omega arith in
    ap (λ (k : ℕ). get_or (keys_of (s ∷ ss) n bytes) k []) at
    ∙ get_or_append_left (block_keys (min 16 n) (drop s bytes)) (keys_of ss (n - 16) bytes) [] i (omega (arith, length-block_keys (min 16 n) (drop s bytes)))
    ∙ get_or-block_keys (min 16 n) i (drop s bytes) (omega arith)
get_or-keys_of (s ∷ ss) n bytes (suc b) i e lt =
    let size : length (block_keys (min 16 n) (drop s bytes)) ≡ 16 = length-block_keys (min 16 n) (drop s bytes) ∙ omega arith in
    let at : 16 * suc b + i ≡ length (block_keys (min 16 n) (drop s bytes)) + (16 * b + i) = omega (arith, size) in
    ap (λ (k : ℕ). get_or (keys_of (s ∷ ss) n bytes) k []) at
    ∙ get_or-append-add (block_keys (min 16 n) (drop s bytes)) (keys_of ss (n - 16) bytes) (16 * b + i) []
    ∙ get_or-keys_of ss (n - 16) bytes b i (omega arith) (omega arith)

-- a key of a block, among all keys
pub get_or-in_block : (starts : List ℕ) (n : ℕ) (bytes block : List ℕ) (b i count : ℕ) → length starts ≡ (n + 15) / 16 → block ≡ drop (get_or starts b 0) bytes → i < count → count ≤ min 16 (n - 16 * b)
    → get_or (block_keys count block) i [] ≡ get_or (keys_of starts n bytes) (16 * b + i) []
get_or-in_block starts n bytes block b i count e is lt le =
    get_or-block_keys count i block lt
    ∙ ap (λ (l : List ℕ). nth i (first_key l) (after_first l)) is
    ∙ sym (get_or-keys_of starts n bytes b i e (omega arith))

pub first-in_block : (starts : List ℕ) (n : ℕ) (bytes block : List ℕ) (b : ℕ) → length starts ≡ (n + 15) / 16 → b < length starts → block ≡ drop (get_or starts b 0) bytes
    → first_key block ≡ get_or (keys_of starts n bytes) (16 * b) []
first-in_block starts n bytes block b e lt is =
    let at : 16 * b + 0 ≡ 16 * b = omega arith in
    ap (λ (l : List ℕ). first_key l) is ∙ sym (get_or-keys_of starts n bytes b 0 e (omega arith))
    ∙ ap (λ (k : ℕ). get_or (keys_of starts n bytes) k []) at

-- the first count keys of a block can be read
pub IsBlock-at : (starts : List ℕ) (n : ℕ) (bytes block : List ℕ) (b count : ℕ) → AreBlocks starts n bytes → b < length starts → block ≡ drop (get_or starts b 0) bytes → count ≤ min 16 (n - 16 * b)
    → IsBlock count block
IsBlock-at starts n bytes block b count h lt is le =
    subst (λ (l : List ℕ). IsBlock count l) (sym is) (IsBlock-fewer count (min 16 (n - 16 * b)) (drop (get_or starts b 0) bytes) le (block_at starts n bytes b h lt).1)

-- a key at most so long
abbrev pub IsShort : List ℕ → Type 0
IsShort key = length key ≤ 255

AreShort-decoded : (n : ℕ) (key bytes : List ℕ) → IsShort key → CanDecode n key bytes → AreShort (decoded n key bytes)
AreShort-decoded zero key bytes short h = All-cons IsShort key [] short (All-nil IsShort)
AreShort-decoded (suc n) key bytes short h =
    let next : length (next_key key bytes) ≤ 255 =
    omega (arith, h.3, length-append (take (get_or bytes 0 0) key) (take (get_or bytes 1 0) (drop 2 bytes)), length-take (get_or bytes 0 0) key, length-take (get_or bytes 1 0) (drop 2 bytes)) in
    All-cons IsShort key (decoded n (next_key key bytes) (after_key bytes)) short (AreShort-decoded n (next_key key bytes) (after_key bytes) next h.4)

AreShort-block_keys : (n : ℕ) (bytes : List ℕ) → IsBlock n bytes → AreShort (block_keys n bytes)
AreShort-block_keys zero bytes h = All-nil IsShort
AreShort-block_keys (suc n) bytes h =
    AreShort-decoded n (first_key bytes) (after_first bytes) (omega (arith, h.1, length-take (get_or bytes 0 0) (drop 1 bytes))) h.3

-- the keys of readable blocks are short
pub AreShort-keys_of : (starts : List ℕ) (n : ℕ) (bytes : List ℕ) → AreBlocks starts n bytes → AreShort (keys_of starts n bytes)
AreShort-keys_of [] n bytes h = All-nil IsShort
AreShort-keys_of (s ∷ ss) n bytes h =
    All-append IsShort (block_keys (min 16 n) (drop s bytes)) (keys_of ss (n - 16) bytes) (AreShort-block_keys (min 16 n) (drop s bytes) h.1) (AreShort-keys_of ss (n - 16) bytes h.2)
