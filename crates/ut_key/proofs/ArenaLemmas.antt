-- What keys read from their bytes are.
use Rattle.std.proofs.Common.{◌≡◌, ℕ, zero, suc, ◌+◌, ◌-◌, ◌<◌, ◌≤◌, List, [], ◌∷◌, ◌++◌, map, length, take, drop, get_or, refl, sym, ◌∙◌, ap, subst, arith, sum_by}
use Rattle.std.proofs.lemmas.List.{length-take, length-drop, length-append, take_all, take-append-le, drop-append-le, drop-drop, drop_at, append_assoc, map-append, take_more}
use Rattle.std.proofs.lemmas.List.Sums.{sum_by-cons}
use Rattle.std.proofs.lemmas.List.Elements.{All-nil, All-cons}
use Rattle.ut_key.specs.Arena.{keys_from, start_at, AreEnds}
use Rattle.ut_key.specs.Keys.{AreShort}

pub length-keys_from : (start : ℕ) (ends bytes : List ℕ) → length (keys_from start ends bytes) ≡ length ends
length-keys_from start [] bytes = refl
length-keys_from start (e ∷ es) bytes = ap (λ n. suc n) (length-keys_from e es bytes)

pub key_at : (start : ℕ) (ends bytes : List ℕ) (i : ℕ) → i < length ends
    → get_or (keys_from start ends bytes) i [] ≡ take (get_or ends i 0 - start_at start ends i) (drop (start_at start ends i) bytes)
key_at start [] bytes i h = absurd (omega arith)
key_at start (e ∷ es) bytes zero h = refl
key_at start (e ∷ es) bytes (suc zero) h = key_at e es bytes 0 (omega arith)
key_at start (e ∷ es) bytes (suc (suc i)) h = key_at e es bytes (suc i) (omega arith)

pub start_within : (start : ℕ) (ends : List ℕ) (size : ℕ) → AreEnds start ends size → start ≤ size
start_within start [] size h = omega arith
start_within start (e ∷ es) size h = let r = start_within e es size h.2 in omega (arith, h.0, r)

pub ends_at : (start : ℕ) (ends : List ℕ) (size i : ℕ) → AreEnds start ends size → i < length ends
    → (start_at start ends i ≤ get_or ends i 0) × (get_or ends i 0 ≤ start_at start ends i + 255) × (get_or ends i 0 ≤ size)
ends_at start [] size i a h = absurd (omega arith)
ends_at start (e ∷ es) size zero a h = (a.0, a.1, start_within e es size a.2)
ends_at start (e ∷ es) size (suc zero) a h = ends_at e es size 0 a.2 (omega arith)
ends_at start (e ∷ es) size (suc (suc i)) a h = ends_at e es size (suc i) a.2 (omega arith)

-- no key that is read has more than 255 bytes
pub AreShort-keys_from : (start : ℕ) (ends bytes : List ℕ) → AreEnds start ends (length bytes) → AreShort (keys_from start ends bytes)
AreShort-keys_from start [] bytes h = All-nil (λ (key : List ℕ). length key ≤ 255)
AreShort-keys_from start (e ∷ es) bytes h =
    All-cons (λ (key : List ℕ). length key ≤ 255) (take (e - start) (drop start bytes)) (keys_from e es bytes)
    (omega (arith, h.1, length-take (e - start) (drop start bytes))) (AreShort-keys_from e es bytes h.2)

-- the bytes of all keys, end to end
pub bytes-keys_from : (start : ℕ) (ends bytes : List ℕ) → AreEnds start ends (length bytes) → sum_by (λ key. length key) (keys_from start ends bytes) ≡ length bytes - start
bytes-keys_from start [] bytes h = omega (arith, h)
bytes-keys_from start (e ∷ es) bytes h =
    let rest = bytes-keys_from e es bytes h.2 in
    let first = length-take (e - start) (drop start bytes) in
    let size = length-drop start bytes in
    let within = start_within e es (length bytes) h.2 in
    let both = sum_by-cons (λ (key : List ℕ). length key) (take (e - start) (drop start bytes)) (keys_from e es bytes) in
    omega (arith, rest, first, size, within, both, h.0)

-- the place behind each key, where the keys begin at by
abbrev pub shifted : ℕ → List ℕ → List ℕ
shifted by ends = map (λ end. by + end) ends

keys_from-shifted : (front back ends : List ℕ) (start : ℕ) → keys_from (length front + start) (shifted (length front) ends) (front ++ back) ≡ keys_from start ends back
keys_from-shifted front back [] start = refl
keys_from-shifted front back (e ∷ es) start =
    let size : length front + e - (length front + start) ≡ e - start = omega arith in
    let rest : drop (length front + start) (front ++ back) ≡ drop start back = sym (drop-drop start (length front) (front ++ back)) ∙ ap (λ (l : List ℕ). drop start l) (drop_at front back (length front) refl) in
    ap (λ k. k ∷ keys_from (length front + e) (shifted (length front) es) (front ++ back)) (ap (λ (n : ℕ). take n (drop (length front + start) (front ++ back))) size ∙ ap (λ (l : List ℕ). take (e - start) l) rest)
    ∙ ap (λ ks. take (e - start) (drop start back) ∷ ks) (keys_from-shifted front back es e)

-- keys and others behind them
pub keys_from-append : (start : ℕ) (ends others front back : List ℕ) → AreEnds start ends (length front)
    → keys_from start (ends ++ shifted (length front) others) (front ++ back) ≡ keys_from start ends front ++ keys_from 0 others back
keys_from-append start [] others front back h =
    let e : start ≡ length front + 0 = omega (arith, h) in
    ap (λ (n : ℕ). keys_from n (shifted (length front) others) (front ++ back)) e ∙ keys_from-shifted front back others 0
keys_from-append start (e ∷ es) others front back h =
    let within = start_within e es (length front) h.2 in
    let first : take (e - start) (drop start (front ++ back)) ≡ take (e - start) (drop start front) =
    ap (λ (l : List ℕ). take (e - start) l) (drop-append-le start front back (omega (arith, within, h.0)))
    ∙ take-append-le (e - start) (drop start front) back (omega (arith, within, h.0, length-drop start front)) in
    ap (λ k. k ∷ keys_from e (es ++ shifted (length front) others) (front ++ back)) first
    ∙ ap (λ ks. take (e - start) (drop start front) ∷ ks) (keys_from-append e es others front back h.2)

AreEnds-shifted : (by start : ℕ) (ends : List ℕ) (size : ℕ) → AreEnds start ends size → AreEnds (by + start) (shifted by ends) (by + size)
AreEnds-shifted by start [] size h = ap (λ n. by + n) h
AreEnds-shifted by start (e ∷ es) size h = (omega (arith, h.0), omega (arith, h.1), AreEnds-shifted by e es size h.2)

pub AreEnds-append : (start : ℕ) (ends others : List ℕ) (size more : ℕ) → AreEnds start ends size → AreEnds 0 others more → AreEnds start (ends ++ shifted size others) (size + more)
AreEnds-append start [] others size more h k =
    let e : size + 0 ≡ start = omega (arith, h) in
    subst (λ (n : ℕ). AreEnds n (shifted size others) (size + more)) e (AreEnds-shifted size 0 others more k)
AreEnds-append start (e ∷ es) others size more h k = (h.0, h.1, AreEnds-append e es others size more h.2 k)

-- one more key
pub push_keys : (ends front key : List ℕ) (es bs : List ℕ) → AreEnds 0 ends (length front) → bs ≡ front ++ key → es ≡ ends ++ length bs ∷ []
    → keys_from 0 es bs ≡ keys_from 0 ends front ++ key ∷ []
push_keys ends front key es bs h b e =
    let size : length bs ≡ length front + length key = ap (λ l. length l) b ∙ length-append front key in
    ap (λ (l : List ℕ). keys_from 0 l bs) (e ∙ ap (λ (n : ℕ). ends ++ n ∷ []) size) ∙ ap (λ (l : List ℕ). keys_from 0 (ends ++ (length front + length key) ∷ []) l) b
    ∙ keys_from-append 0 ends (length key ∷ []) front key h
    ∙ ap (λ (l : List (List ℕ)). keys_from 0 ends front ++ l) (ap (λ (k : List ℕ). k ∷ []) (take_all (length key - 0) key (omega arith)))

pub push_ends : (ends front key : List ℕ) (es bs : List ℕ) → AreEnds 0 ends (length front) → bs ≡ front ++ key → es ≡ ends ++ length bs ∷ [] → length key ≤ 255
    → AreEnds 0 es (length bs)
push_ends ends front key es bs h b e short =
    let size : length bs ≡ length front + length key = ap (λ l. length l) b ∙ length-append front key in
    let made : AreEnds 0 (ends ++ (length front + length key) ∷ []) (length front + length key) = AreEnds-append 0 ends (length key ∷ []) (length front) (length key) h (omega arith, omega arith, refl) in
    subst (λ (l : List ℕ). AreEnds 0 l (length bs)) (sym (e ∙ ap (λ (n : ℕ). ends ++ n ∷ []) size)) (subst (λ (n : ℕ). AreEnds 0 (ends ++ (length front + length key) ∷ []) n) (sym size) made)

pub end_within : (start : ℕ) (ends : List ℕ) (size i : ℕ) → AreEnds start ends size → i < length ends → get_or ends i 0 ≤ size
end_within start ends size i h lt = (ends_at start ends size i h lt).2

-- what was written behind
pub joined_keys : (ends others front back es bs : List ℕ) → AreEnds 0 ends (length front) → bs ≡ front ++ back → es ≡ ends ++ shifted (length front) others
    → keys_from 0 es bs ≡ keys_from 0 ends front ++ keys_from 0 others back
joined_keys ends others front back es bs h b e =
    ap (λ (l : List ℕ). keys_from 0 l bs) e ∙ ap (λ (l : List ℕ). keys_from 0 (ends ++ shifted (length front) others) l) b ∙ keys_from-append 0 ends others front back h

pub joined_ends : (ends others front back es bs : List ℕ) → AreEnds 0 ends (length front) → AreEnds 0 others (length back) → bs ≡ front ++ back → es ≡ ends ++ shifted (length front) others
    → AreEnds 0 es (length bs)
joined_ends ends others front back es bs h k b e =
    let size : length bs ≡ length front + length back = ap (λ l. length l) b ∙ length-append front back in
    subst (λ (l : List ℕ). AreEnds 0 l (length bs)) (sym e) (subst (λ (n : ℕ). AreEnds 0 (ends ++ shifted (length front) others) n) (sym size) (AreEnds-append 0 ends others (length front) (length back) h k))

pub shifted_more : (by i : ℕ) (es before others : List ℕ) (more : List ℕ) → i < length others → es ≡ before ++ shifted by (take i others) → more ≡ es ++ (by + get_or others i 0) ∷ []
    → more ≡ before ++ shifted by (take (i + 1) others)
shifted_more by i es before others more lt h e =
    e ∙ ap (λ (l : List ℕ). l ++ (by + get_or others i 0) ∷ []) h ∙ append_assoc before (shifted by (take i others)) ((by + get_or others i 0) ∷ [])
    ∙ ap (λ (l : List ℕ). before ++ l) (sym (map-append (λ end. by + end) (take i others) (get_or others i 0 ∷ [])) ∙ ap (λ (l : List ℕ). shifted by l) (sym (take_more others i 0 lt)))
