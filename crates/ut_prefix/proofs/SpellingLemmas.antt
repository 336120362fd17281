-- What is spelled is read again.
use Rattle.std.proofs.Common.{◌≡◌, ℕ, ℤ, zero, suc, ◌+◌, ◌-◌, ◌*◌, ◌/◌, ◌<◌, ◌≤◌, min, nat_eq, List, [], ◌∷◌, ◌++◌, append_assoc, append-nil, ◌^◌, length, length-append, take, drop, get_or, refl, sym, ◌∙◌, ap, subst, arith}
use Rattle.std.proofs.lemmas.List.{drop-drop, length-drop, length-take, take-append-drop}
use Rattle.std.proofs.lemmas.List.Elements.{All-head, All-tail, All-take, All-drop}
use Rattle.std.proofs.Math.Seq.{take-append_seam, drop-append_seam, drop-cons}
use borrow.Author.Tests.{eqb-true}
use Rattle.ut_prefix.proofs.OrderLemmas.{either}
use Rattle.ut_prefix.proofs.LayoutLemmas.{IsShort}
use Rattle.ut_key.specs.Keys.{AreShort, IsAscending}
use Rattle.ut_prefix.specs.Spelling.{shared, key_bytes, rest_bytes, block_bytes, blocks_bytes, dict_bytes}
use Rattle.ut_prefix.specs.Reading.{next_key, after_key, first_key, after_first, decoded, block_keys, keys_of, CanDecode, IsBlock, AreBlocks, starts_of, IsLaidOut, IsKept}
use Rattle.ut_prefix.specs.Totals.{IsTotal}
use Rattle.std.specs.Int.{to_le_bytes, w32}

pub take-shared : (xs ys : List ℕ) → take (shared xs ys) xs ≡ take (shared xs ys) ys
take-shared [] ys = refl
take-shared (x ∷ xs) [] = refl
take-shared (x ∷ xs) (y ∷ ys) =
    either (nat_eq x y)
    (λ yes. rw yes (ap (λ (z : ℕ). z ∷ take (shared xs ys) xs) (eqb-true x y yes) ∙ ap (λ (l : List ℕ). y ∷ l) (take-shared xs ys)))
    (λ other. rw other refl)

pub shared_le : (xs ys : List ℕ) → (shared xs ys ≤ length xs) × (shared xs ys ≤ length ys)
shared_le [] ys = (omega arith, omega arith)
shared_le (x ∷ xs) [] = (omega arith, omega arith)
shared_le (x ∷ xs) (y ∷ ys) =
    let rest = shared_le xs ys in
    either (nat_eq x y) (λ yes. rw yes (omega (arith, rest.0), omega (arith, rest.1))) (λ other. rw other (omega arith, omega arith))

pub next_key-key_bytes : (before key more : List ℕ) → next_key before (key_bytes before key ++ more) ≡ key
next_key-key_bytes before key more =
    ap (λ (l : List ℕ). l ++ take (length key - shared before key) (drop (shared before key) key ++ more)) (take-shared before key)
    ∙ ap (λ (l : List ℕ). take (shared before key) key ++ l)
    (ap (λ (k : ℕ). take k (drop (shared before key) key ++ more)) (sym (length-drop (shared before key) key)) ∙ take-append_seam (drop (shared before key) key) more)
    ∙ take-append-drop (shared before key) key

pub after_key-key_bytes : (before key more : List ℕ) → after_key (key_bytes before key ++ more) ≡ more
after_key-key_bytes before key more =
    let e : 2 + (length key - shared before key) ≡ suc (suc (length (drop (shared before key) key))) = omega (arith, length-drop (shared before key) key) in
    ap (λ (k : ℕ). drop k (key_bytes before key ++ more)) e ∙ drop-append_seam (drop (shared before key) key) more

pub CanDecode-key_bytes : (n : ℕ) (before key bytes more : List ℕ) → bytes ≡ key_bytes before key ++ more → length key ≤ 255 → CanDecode n key more → CanDecode (suc n) before bytes
CanDecode-key_bytes n before key bytes more e short h =
    let le = shared_le before key in
    let size = length-append (drop (shared before key) key) more in
    let rest = length-drop (shared before key) key in
    let at : CanDecode (suc n) before (key_bytes before key ++ more) = (
      omega arith,
      le.0,
      omega (arith, size, rest),
      omega (arith, le.1, short),
      subst (λ (l : List ℕ). CanDecode n l (after_key (key_bytes before key ++ more))) (sym (next_key-key_bytes before key more))
          (subst (λ (l : List ℕ). CanDecode n key l) (sym (after_key-key_bytes before key more)) h),
    ) in
    subst (λ (l : List ℕ). CanDecode (suc n) before l) (sym e) at

pub decoded-key_bytes : (n : ℕ) (before key bytes more : List ℕ) → bytes ≡ key_bytes before key ++ more → decoded (suc n) before bytes ≡ before ∷ decoded n key more
decoded-key_bytes n before key bytes more e =
    ap (λ (l : List ℕ). decoded (suc n) before l) e
    ∙ ap (λ (l : List ℕ). before ∷ decoded n l (after_key (key_bytes before key ++ more))) (next_key-key_bytes before key more)
    ∙ ap (λ (l : List ℕ). before ∷ decoded n key l) (after_key-key_bytes before key more)

pub CanDecode-rest_bytes : (keys : List (List ℕ)) (key more : List ℕ) → AreShort keys → CanDecode (length keys) key (rest_bytes key keys ++ more)
CanDecode-rest_bytes [] key more h = tt
CanDecode-rest_bytes (next ∷ keys) key more h =
    CanDecode-key_bytes (length keys) key next _ (rest_bytes next keys ++ more) (append_assoc (key_bytes key next) (rest_bytes next keys) more) (All-head IsShort next keys h) (CanDecode-rest_bytes keys next more (All-tail IsShort next keys h))

pub decoded-rest_bytes : (keys : List (List ℕ)) (key more : List ℕ) → decoded (length keys) key (rest_bytes key keys ++ more) ≡ key ∷ keys
decoded-rest_bytes [] key more = refl
decoded-rest_bytes (next ∷ keys) key more = decoded-key_bytes (length keys) key next _ (rest_bytes next keys ++ more) (append_assoc (key_bytes key next) (rest_bytes next keys) more)
    ∙ ap (λ (l : List (List ℕ)). key ∷ l) (decoded-rest_bytes keys next more)

pub first_key-block_bytes : (key : List ℕ) (keys : List (List ℕ)) (more : List ℕ) → first_key (block_bytes (key ∷ keys) ++ more) ≡ key
first_key-block_bytes key keys more = ap (λ (l : List ℕ). take (length key) l) (append_assoc key (rest_bytes key keys) more) ∙ take-append_seam key (rest_bytes key keys ++ more)

pub after_first-block_bytes : (key : List ℕ) (keys : List (List ℕ)) (more : List ℕ) → after_first (block_bytes (key ∷ keys) ++ more) ≡ rest_bytes key keys ++ more
after_first-block_bytes key keys more =
    let e : 1 + length key ≡ suc (length key) = omega arith in
    ap (λ (k : ℕ). drop k (block_bytes (key ∷ keys) ++ more)) e
    ∙ ap (λ (l : List ℕ). drop (length key) l) (append_assoc key (rest_bytes key keys) more) ∙ drop-append_seam key (rest_bytes key keys ++ more)

pub block_keys-block_bytes : (keys : List (List ℕ)) (more : List ℕ) → block_keys (length keys) (block_bytes keys ++ more) ≡ keys
block_keys-block_bytes [] more = refl
block_keys-block_bytes (key ∷ keys) more =
    ap (λ (l : List ℕ). decoded (length keys) l (after_first (block_bytes (key ∷ keys) ++ more))) (first_key-block_bytes key keys more)
    ∙ ap (λ (l : List ℕ). decoded (length keys) key l) (after_first-block_bytes key keys more) ∙ decoded-rest_bytes keys key more

pub IsBlock-block_bytes : (keys : List (List ℕ)) (more : List ℕ) → AreShort keys → IsBlock (length keys) (block_bytes keys ++ more)
IsBlock-block_bytes [] more h = tt
IsBlock-block_bytes (key ∷ keys) more h =
    let size = length-append (key ++ rest_bytes key keys) more in
    let inner = length-append key (rest_bytes key keys) in (
      omega (arith, size, inner),
      All-head IsShort key keys h,
      omega arith,
      subst (λ (l : List ℕ). CanDecode (length keys) l (after_first (block_bytes (key ∷ keys) ++ more))) (sym (first_key-block_bytes key keys more))
          (subst (λ (l : List ℕ). CanDecode (length keys) key l) (sym (after_first-block_bytes key keys more)) (CanDecode-rest_bytes keys key more (All-tail IsShort key keys h))),
    )

-- the bytes behind the front of a text
behind : (front rest bytes : List ℕ) (at : ℕ) → bytes ≡ front ++ rest → at ≡ length front → drop at bytes ≡ rest
behind front rest bytes at e size = ap (λ (k : ℕ). drop k bytes) size ∙ ap (λ (l : List ℕ). drop (length front) l) e ∙ drop-append_seam front rest

-- the keys of the blocks that keys are spelled in are these keys
pub keys_of-blocks_bytes : (m n at : ℕ) (keys : List (List ℕ)) (front bytes : List ℕ) → bytes ≡ front ++ blocks_bytes m keys → at ≡ length front → length keys ≡ n → m ≡ (n + 15) / 16
    → keys_of (starts_of m at keys) n bytes ≡ keys
keys_of-blocks_bytes zero n at [] front bytes e size count blocks = refl
keys_of-blocks_bytes zero n at (key ∷ keys) front bytes e size count blocks = absurd (omega arith)
keys_of-blocks_bytes (suc m) n at keys front bytes e size count blocks =
    let here = behind front (block_bytes (take 16 keys) ++ blocks_bytes m (drop 16 keys)) bytes at e size in
    let first : min 16 n ≡ length (take 16 keys) = omega (arith, length-take 16 keys) in
    let left : length (drop 16 keys) ≡ n - 16 = omega (arith, length-drop 16 keys) in
    let block : block_keys (min 16 n) (drop at bytes) ≡ take 16 keys =
    ap (λ (l : List ℕ). block_keys (min 16 n) l) here ∙ ap (λ (k : ℕ). block_keys k (block_bytes (take 16 keys) ++ blocks_bytes m (drop 16 keys))) first
    ∙ block_keys-block_bytes (take 16 keys) (blocks_bytes m (drop 16 keys)) in
    let rest : keys_of (starts_of m (at + length (block_bytes (take 16 keys))) (drop 16 keys)) (n - 16) bytes ≡ drop 16 keys =
    keys_of-blocks_bytes m (n - 16) (at + length (block_bytes (take 16 keys))) (drop 16 keys) (front ++ block_bytes (take 16 keys)) bytes
    (e ∙ sym (append_assoc front (block_bytes (take 16 keys)) (blocks_bytes m (drop 16 keys)))) (omega (arith, length-append front (block_bytes (take 16 keys)))) left (omega arith) in
    ap (λ (l : List (List ℕ)). l ++ keys_of (starts_of m (at + length (block_bytes (take 16 keys))) (drop 16 keys)) (n - 16) bytes) block
    ∙ ap (λ (l : List (List ℕ)). take 16 keys ++ l) rest ∙ take-append-drop 16 keys

pub AreBlocks-blocks_bytes : (m n at : ℕ) (keys : List (List ℕ)) (front bytes : List ℕ) → bytes ≡ front ++ blocks_bytes m keys → at ≡ length front → length keys ≡ n → m ≡ (n + 15) / 16 → AreShort keys
    → AreBlocks (starts_of m at keys) n bytes
AreBlocks-blocks_bytes zero n at keys front bytes e size count blocks short = tt
AreBlocks-blocks_bytes (suc m) n at keys front bytes e size count blocks short =
    let here = behind front (block_bytes (take 16 keys) ++ blocks_bytes m (drop 16 keys)) bytes at e size in
    let first : min 16 n ≡ length (take 16 keys) = omega (arith, length-take 16 keys) in
    let left : length (drop 16 keys) ≡ n - 16 = omega (arith, length-drop 16 keys) in
    let within : at ≤ length bytes = omega (arith, ap (λ (l : List ℕ). length l) e, length-append front (blocks_bytes (suc m) keys)) in (
      within,
      subst (λ (k : ℕ). IsBlock k (drop at bytes)) (sym first) (subst (λ (l : List ℕ). IsBlock (length (take 16 keys)) l) (sym here) (IsBlock-block_bytes (take 16 keys) (blocks_bytes m (drop 16 keys)) (All-take IsShort 16 keys short))),
      AreBlocks-blocks_bytes m (n - 16) (at + length (block_bytes (take 16 keys))) (drop 16 keys) (front ++ block_bytes (take 16 keys)) bytes
          (e ∙ sym (append_assoc front (block_bytes (take 16 keys)) (blocks_bytes m (drop 16 keys)))) (omega (arith, length-append front (block_bytes (take 16 keys)))) left (omega arith) (All-drop IsShort 16 keys short),
    )

pub length-starts_of : (m at : ℕ) (keys : List (List ℕ)) → length (starts_of m at keys) ≡ m
length-starts_of zero at keys = refl
length-starts_of (suc m) at keys = ap suc (length-starts_of m (at + length (block_bytes (take 16 keys))) (drop 16 keys))

pub shared-end : (xs ys : List ℕ) (i : ℕ) → min (length xs) (length ys) ≤ i → shared (drop i xs) (drop i ys) ≡ 0
shared-end xs ys i le =
    let rest = shared_le (drop i xs) (drop i ys) in
    omega (arith, rest.0, rest.1, length-drop i xs, length-drop i ys)

take-min : (k : ℕ) (xs : List (List ℕ)) → take (min (length xs) k) xs ≡ take k xs
take-min zero xs = let e : min (length xs) 0 ≡ 0 = omega arith in ap (λ (n : ℕ). take n xs) e
take-min (suc k) [] = let e : min 0 (suc k) ≡ 0 = omega arith in ap (λ (n : ℕ). take n (let l : List (List ℕ) = [] in l)) e
take-min (suc k) (x ∷ xs) =
    let e : min (suc (length xs)) (suc k) ≡ suc (min (length xs) k) = omega arith in
    ap (λ (n : ℕ). take n (x ∷ xs)) e ∙ ap (λ (l : List (List ℕ)). x ∷ l) (take-min k xs)

-- the keys from a place on, in front of another place, begin with the key there
pub slice-cons : {X : Type 0} (xs : List X) (i end : ℕ) (d : X) → i < end → end ≤ length xs → take (end - i) (drop i xs) ≡ get_or xs i d ∷ take (end - (i + 1)) (drop (i + 1) xs)
slice-cons xs i end d lt le =
    let count : end - i ≡ suc (end - (i + 1)) = omega (arith, lt) in
    let one : suc i ≡ i + 1 = omega arith in
    ap (λ (k : ℕ). take k (drop i xs)) count ∙ ap (λ l. take (suc (end - (i + 1))) l) (drop-cons xs i d (omega (arith, lt, le)))
    ∙ ap (λ (k : ℕ). get_or xs i d ∷ take (end - (i + 1)) (drop k xs)) one

-- the first key of a block is written
pub block_begun : (keys : List (List ℕ)) (start end i : ℕ) (first out one two : List ℕ) → i ≡ start + 1 → start < end → end ≤ length keys → first ≡ get_or keys start []
    → one ≡ out ++ length first ∷ [] → two ≡ one ++ first
    → two ++ rest_bytes (get_or keys (i - 1) []) (take (end - i) (drop i keys)) ≡ out ++ block_bytes (take (end - start) (drop start keys))
block_begun keys start end i first out one two e lt le f o t =
    let before : i - 1 ≡ start = omega (arith, e) in
    let rest = λ (key : List ℕ) (k : ℕ). rest_bytes key (take (end - k) (drop k keys)) in
    ap (λ (l : List ℕ). l ++ rest (get_or keys (i - 1) []) i) (t ∙ ap (λ (l : List ℕ). l ++ first) o)
    ∙ ap (λ (k : ℕ). ((out ++ length first ∷ []) ++ first) ++ rest (get_or keys k []) i) before
    ∙ ap (λ (k : ℕ). ((out ++ length first ∷ []) ++ first) ++ rest (get_or keys start []) k) e
    ∙ ap (λ (l : List ℕ). ((out ++ length l ∷ []) ++ l) ++ rest (get_or keys start []) (start + 1)) f
    ∙ append_assoc (out ++ length (get_or keys start []) ∷ []) (get_or keys start []) (rest (get_or keys start []) (start + 1))
    ∙ append_assoc out (length (get_or keys start []) ∷ []) (get_or keys start [] ++ rest (get_or keys start []) (start + 1))
    ∙ ap (λ (l : List (List ℕ)). out ++ block_bytes l) (sym (slice-cons keys start end [] lt le))

-- one more key of a block is written
pub block_more : (keys : List (List ℕ)) (end i : ℕ) (before key out new whole : List ℕ) → i < end → end ≤ length keys → before ≡ get_or keys (i - 1) [] → key ≡ get_or keys i []
    → new ≡ out ++ key_bytes before key → out ++ rest_bytes (get_or keys (i - 1) []) (take (end - i) (drop i keys)) ≡ whole
    → new ++ rest_bytes (get_or keys (i + 1 - 1) []) (take (end - (i + 1)) (drop (i + 1) keys)) ≡ whole
block_more keys end i before key out new whole lt le b k n w =
    let here : i + 1 - 1 ≡ i = omega arith in
    let rest = take (end - (i + 1)) (drop (i + 1) keys) in
    ap (λ (l : List ℕ). l ++ rest_bytes (get_or keys (i + 1 - 1) []) rest) (n ∙ ap (λ (l : List ℕ). out ++ key_bytes l key) b ∙ ap (λ (l : List ℕ). out ++ key_bytes (get_or keys (i - 1) []) l) k)
    ∙ ap (λ (j : ℕ). (out ++ key_bytes (get_or keys (i - 1) []) (get_or keys i [])) ++ rest_bytes (get_or keys j []) rest) here
    ∙ append_assoc out (key_bytes (get_or keys (i - 1) []) (get_or keys i [])) (rest_bytes (get_or keys i []) rest)
    ∙ ap (λ (l : List (List ℕ)). out ++ rest_bytes (get_or keys (i - 1) []) l) (sym (slice-cons keys i end [] lt le)) ∙ w

-- the keys of block i
pub block_is : (keys : List (List ℕ)) (i end : ℕ) → end ≡ min (16 * i + 16) (length keys) → 16 * i ≤ length keys → take (end - 16 * i) (drop (16 * i) keys) ≡ take 16 (drop (16 * i) keys)
block_is keys i end e le =
    let count : end - 16 * i ≡ min (length (drop (16 * i) keys)) 16 = omega (arith, e, le, length-drop (16 * i) keys) in
    ap (λ (k : ℕ). take k (drop (16 * i) keys)) count ∙ take-min 16 (drop (16 * i) keys)

pub next_blocks : (keys : List (List ℕ)) (i : ℕ) → drop (16 * (i + 1)) keys ≡ drop 16 (drop (16 * i) keys)
next_blocks keys i =
    let e : 16 * (i + 1) ≡ 16 * i + 16 = omega arith in
    ap (λ (k : ℕ). drop k keys) e ∙ sym (drop-drop 16 (16 * i) keys)

-- one more block is written
pub blocks-step : (m k : ℕ) (rest block later : List (List ℕ)) (bytes out whole : List ℕ) → k ≡ suc m → block ≡ take 16 rest → later ≡ drop 16 rest → out ≡ bytes ++ block_bytes block
    → bytes ++ blocks_bytes k rest ≡ whole → out ++ blocks_bytes m later ≡ whole
blocks-step m k rest block later bytes out whole e f g o w =
    ap (λ (l : List ℕ). l ++ blocks_bytes m later) (o ∙ ap (λ (l : List (List ℕ)). bytes ++ block_bytes l) f)
    ∙ ap (λ (l : List (List ℕ)). bytes ++ block_bytes (take 16 rest) ++ blocks_bytes m l) g
    ∙ append_assoc bytes (block_bytes (take 16 rest)) (blocks_bytes m (drop 16 rest))
    ∙ ap (λ (n : ℕ). bytes ++ blocks_bytes n rest) (sym e) ∙ w

pub starts-step : (m k at next : ℕ) (rest block later : List (List ℕ)) (bytes out starts now whole : List ℕ) → k ≡ suc m → block ≡ take 16 rest → later ≡ drop 16 rest → out ≡ bytes ++ block_bytes block → at ≡ length bytes → next ≡ length out
    → now ≡ starts ++ at ∷ [] → starts ++ starts_of k at rest ≡ whole → now ++ starts_of m next later ≡ whole
starts-step m k at next rest block later bytes out starts now whole e f g o a n p w =
    let size : next ≡ at + length (block_bytes (take 16 rest)) = n ∙ ap (λ (l : List ℕ). length l) (o ∙ ap (λ (l : List (List ℕ)). bytes ++ block_bytes l) f) ∙ length-append bytes (block_bytes (take 16 rest)) ∙ ap (λ (j : ℕ). j + length (block_bytes (take 16 rest))) (sym a) in
    ap (λ (l : List ℕ). l ++ starts_of m next later) p
    ∙ append_assoc starts (at ∷ []) (starts_of m next later)
    ∙ ap (λ (j : ℕ). starts ++ at ∷ starts_of m j later) size
    ∙ ap (λ (l : List (List ℕ)). starts ++ at ∷ starts_of m (at + length (block_bytes (take 16 rest))) l) g
    ∙ ap (λ (j : ℕ). starts ++ starts_of j at rest) (sym e) ∙ w

pub no_blocks : (k : ℕ) (rest : List (List ℕ)) (bytes whole : List ℕ) → k ≡ 0 → bytes ++ blocks_bytes k rest ≡ whole → bytes ≡ whole
no_blocks k rest bytes whole e w = sym (append-nil bytes) ∙ ap (λ (j : ℕ). bytes ++ blocks_bytes j rest) (sym e) ∙ w

pub no_starts : (k at : ℕ) (rest : List (List ℕ)) (starts whole : List ℕ) → k ≡ 0 → starts ++ starts_of k at rest ≡ whole → starts ≡ whole
no_starts k at rest starts whole e w = sym (append-nil starts) ∙ ap (λ (j : ℕ). starts ++ starts_of j at rest) (sym e) ∙ w

-- the dictionary that was written
pub keys_of-written : (keys : List (List ℕ)) (n : ℕ) (starts bytes : List ℕ) → length keys ≡ n → starts ≡ starts_of ((n + 15) / 16) 0 keys → bytes ≡ blocks_bytes ((n + 15) / 16) keys
    → keys_of starts n bytes ≡ keys
keys_of-written keys n starts bytes e s b =
    ap (λ (l : List ℕ). keys_of l n bytes) s ∙ keys_of-blocks_bytes ((n + 15) / 16) n 0 keys [] bytes b refl e refl

IsLaidOut-written : (keys : List (List ℕ)) (n : ℕ) (starts bytes : List ℕ) → length keys ≡ n → starts ≡ starts_of ((n + 15) / 16) 0 keys → bytes ≡ blocks_bytes ((n + 15) / 16) keys
    → n < 2 ^ 31 → AreShort keys → IsAscending keys → IsLaidOut starts n bytes
IsLaidOut-written keys n starts bytes e s b small short up = record {
  count = ap (λ (l : List ℕ). length l) s ∙ length-starts_of ((n + 15) / 16) 0 keys;
  size = small;
  blocks = subst (λ (l : List ℕ). AreBlocks l n bytes) (sym s) (AreBlocks-blocks_bytes ((n + 15) / 16) n 0 keys [] bytes b refl e refl short);
  ascending = subst (λ (l : List (List ℕ)). IsAscending l) (sym (keys_of-written keys n starts bytes e s b)) up;
  spelled = b ∙ ap (λ (l : List (List ℕ)). blocks_bytes ((n + 15) / 16) l) (sym (keys_of-written keys n starts bytes e s b));
}

pub IsKept-written : (keys : List (List ℕ)) (n : ℕ) (starts bytes : List ℕ) (total : ℤ) → length keys ≡ n → starts ≡ starts_of ((n + 15) / 16) 0 keys → bytes ≡ blocks_bytes ((n + 15) / 16) keys
    → n < 2 ^ 31 → AreShort keys → IsAscending keys → IsTotal keys total → IsKept starts n bytes total
IsKept-written keys n starts bytes total e s b small short up sum = record {
  laid = IsLaidOut-written keys n starts bytes e s b small short up;
  sum = subst (λ (l : List (List ℕ)). IsTotal l total) (sym (keys_of-written keys n starts bytes e s b)) sum;
}

pub dict_bytes-written : (keys : List (List ℕ)) (n : ℕ) (out number bytes mid new : List ℕ) → number ≡ to_le_bytes w32 n → mid ≡ out ++ number → new ≡ mid ++ bytes → n ≡ length keys → bytes ≡ blocks_bytes ((n + 15) / 16) keys
    → new ≡ out ++ dict_bytes keys
dict_bytes-written keys n out number bytes mid new d e f g h =
    f ∙ ap (λ (l : List ℕ). l ++ bytes) e ∙ append_assoc out number bytes ∙ ap (λ (l : List ℕ). out ++ (l ++ bytes)) d
    ∙ ap (λ (l : List ℕ). out ++ (to_le_bytes w32 n ++ l)) h ∙ ap (λ (k : ℕ). out ++ (to_le_bytes w32 k ++ blocks_bytes ((k + 15) / 16) keys)) g
