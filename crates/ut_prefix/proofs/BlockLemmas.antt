-- Reading the keys of a block.
use Rattle.std.proofs.Common.{◌≡◌, ℕ, zero, suc, ◌+◌, ◌<◌, ◌≤◌, List, [], ◌∷◌, ◌++◌, length, take, get_or, refl, sym, ◌∙◌, ap, subst, arith}
use Rattle.std.proofs.lemmas.List.{take-take}
use Rattle.ut_prefix.specs.Reading.{next_key, after_key, first_key, after_first, decoded, block_keys, CanDecode, IsBlock}

-- the key that is i places behind a key
abbrev pub nth : ℕ → List ℕ → List ℕ → List ℕ
nth zero key bytes = key
nth (suc i) key bytes = nth i (next_key key bytes) (after_key bytes)

pub get_or-decoded : (n i : ℕ) (key bytes : List ℕ) → i ≤ n → get_or (decoded n key bytes) i [] ≡ nth i key bytes
get_or-decoded zero zero key bytes h = refl
get_or-decoded zero (suc i) key bytes h = absurd (omega arith)
get_or-decoded (suc n) zero key bytes h = refl
get_or-decoded (suc n) (suc i) key bytes h = get_or-decoded n i (next_key key bytes) (after_key bytes) (omega arith)

pub length-decoded : (n : ℕ) (key bytes : List ℕ) → length (decoded n key bytes) ≡ suc n
length-decoded zero key bytes = refl
length-decoded (suc n) key bytes = ap suc (length-decoded n (next_key key bytes) (after_key bytes))

pub get_or-block_keys : (n i : ℕ) (bytes : List ℕ) → i < n → get_or (block_keys n bytes) i [] ≡ nth i (first_key bytes) (after_first bytes)
get_or-block_keys zero i bytes h = absurd (omega arith)
get_or-block_keys (suc n) i bytes h = get_or-decoded n i (first_key bytes) (after_first bytes) (omega arith)

pub length-block_keys : (n : ℕ) (bytes : List ℕ) → length (block_keys n bytes) ≡ n
length-block_keys zero bytes = refl
length-block_keys (suc n) bytes = length-decoded n (first_key bytes) (after_first bytes)

pub CanDecode-fewer : (m n : ℕ) (key bytes : List ℕ) → m ≤ n → CanDecode n key bytes → CanDecode m key bytes
CanDecode-fewer zero n key bytes le h = tt
CanDecode-fewer (suc m) zero key bytes le h = absurd (omega arith)
CanDecode-fewer (suc m) (suc n) key bytes le h = (h.0, h.1, h.2, h.3, CanDecode-fewer m n (next_key key bytes) (after_key bytes) (omega arith) h.4)

pub IsBlock-fewer : (m n : ℕ) (bytes : List ℕ) → m ≤ n → IsBlock n bytes → IsBlock m bytes
IsBlock-fewer zero n bytes le h = tt
IsBlock-fewer (suc m) zero bytes le h = absurd (omega arith)
IsBlock-fewer (suc m) (suc n) bytes le h = (h.0, h.1, h.2, CanDecode-fewer m n (first_key bytes) (after_first bytes) (omega arith) h.3)

pub CanDecode-block : (n k : ℕ) (bytes : List ℕ) → k < n → IsBlock n bytes → CanDecode k (first_key bytes) (after_first bytes)
CanDecode-block zero k bytes lt h = absurd (omega arith)
CanDecode-block (suc n) k bytes lt h = CanDecode-fewer k n (first_key bytes) (after_first bytes) (omega arith) h.3

-- one key on
pub CanDecode-next : (n m : ℕ) (key bytes : List ℕ) → n ≡ suc m → CanDecode n key bytes → CanDecode m (next_key key bytes) (after_key bytes)
CanDecode-next n m key bytes e h = let k : CanDecode (suc m) key bytes = subst (λ (i : ℕ). CanDecode i key bytes) e h in k.4

pub CanDecode-one : (n m : ℕ) (key bytes : List ℕ) → n ≡ suc m → CanDecode n key bytes → CanDecode 1 key bytes
CanDecode-one n m key bytes e h = CanDecode-fewer 1 n key bytes (omega arith) h

pub nth-next : (n m : ℕ) (key bytes : List ℕ) → n ≡ suc m → nth n key bytes ≡ nth m (next_key key bytes) (after_key bytes)
nth-next n m key bytes e = ap (λ (i : ℕ). nth i key bytes) e

-- the first key of a block was read
pub at_first : (n i k : ℕ) (block key rest : List ℕ) → key ≡ first_key block → rest ≡ after_first block → k ≡ i → i < n → IsBlock n block
    → CanDecode k key rest × (nth k key rest ≡ get_or (block_keys n block) i [])
at_first n i k block key rest e f s lt h =
    let can : CanDecode k (first_key block) (after_first block) = CanDecode-block n k block (omega arith) h in
    let canned : CanDecode k key rest = subst (λ (l : List ℕ). CanDecode k l rest) (sym e) (subst (λ (l : List ℕ). CanDecode k (first_key block) l) (sym f) can) in
    let here : nth k key rest ≡ nth i (first_key block) (after_first block) =
    ap (λ (l : List ℕ). nth k l rest) e ∙ ap (λ (l : List ℕ). nth k (first_key block) l) f ∙ ap (λ (j : ℕ). nth j (first_key block) (after_first block)) s in
    (canned, here ∙ sym (get_or-block_keys n i block lt))

-- the next key was read
pub at_next : (n m : ℕ) (key bytes next rest target : List ℕ) → n ≡ suc m → next ≡ next_key key bytes → rest ≡ after_key bytes → CanDecode n key bytes → nth n key bytes ≡ target
    → CanDecode m next rest × (nth m next rest ≡ target)
at_next n m key bytes next rest target s e f h t =
    let can : CanDecode m (next_key key bytes) (after_key bytes) = CanDecode-next n m key bytes s h in
    let canned : CanDecode m next rest = subst (λ (l : List ℕ). CanDecode m l rest) (sym e) (subst (λ (l : List ℕ). CanDecode m (next_key key bytes) l) (sym f) can) in
    let here : nth m next rest ≡ nth m (next_key key bytes) (after_key bytes) = ap (λ (l : List ℕ). nth m l rest) e ∙ ap (λ (l : List ℕ). nth m (next_key key bytes) l) f in
    (canned, here ∙ sym (nth-next n m key bytes s) ∙ t)

pub nth-at_next : (m : ℕ) (key bytes next rest : List ℕ) → next ≡ next_key key bytes → rest ≡ after_key bytes → nth m next rest ≡ nth (suc m) key bytes
nth-at_next m key bytes next rest e f = ap (λ (l : List ℕ). nth m l rest) e ∙ ap (λ (l : List ℕ). nth m (next_key key bytes) l) f

-- what stands behind the first bytes of a key, cut to fewer
pub take-behind : (shared count most : ℕ) (key bytes : List ℕ) → shared ≤ length key → count ≤ most → take (shared + count) (take shared key ++ take most bytes) ≡ take shared key ++ take count bytes
take-behind zero count most key bytes le few =
    let e : 0 + count ≡ count = omega arith in
    ap (λ (n : ℕ). take n (take most bytes)) e ∙ take-take count most bytes few
take-behind (suc shared) count most [] bytes le few = absurd (omega (arith, le))
take-behind (suc shared) count most (x ∷ key) bytes le few =
    let e : suc shared + count ≡ suc (shared + count) = omega arith in
    ap (λ (n : ℕ). take n (x ∷ (take shared key ++ take most bytes))) e ∙ ap (λ (l : List ℕ). x ∷ l) (take-behind shared count most key bytes (omega (arith, le)) few)
