-- Laws on the places whose elements pass a test.
use Rattle.std.proofs.Common.{◌≡◌, ℕ, zero, suc, ◌+◌, ◌<◌, ◌≤◌, Bool, true, false, if◌then◌else◌, List, [], ◌∷◌, ◌++◌, length, take, get_or, refl, sym, ◌∙◌, ap, arith, add-one, append_assoc, append-nil}
use Rattle.std.proofs.lemmas.List.{length-take-le}
use Rattle.std.proofs.Math.Seq.{take-suc}
use Rattle.std.specs.List.{range_with_len}
use Rattle.ut_bits.specs.Places.{places_from}

if-append : (b : Bool) (i : ℕ) (a xs ys : List ℕ) → a ≡ xs ++ ys → (if b then i ∷ a else a) ≡ (if b then i ∷ xs else xs) ++ ys
if-append true i a xs ys e = ap (λ (l : List ℕ). i ∷ l) e
if-append false i a xs ys e = e

pub places_from-append : {X : Type 0} (test : X → Bool) (i : ℕ) (xs : List X) (c : X)
    → places_from test i (xs ++ c ∷ []) ≡ places_from test i xs ++ places_from test (i + length xs) (c ∷ [])
places_from-append test i [] c = let e : i ≡ i + 0 = omega arith in ap (λ (n : ℕ). places_from test n (c ∷ [])) e
places_from-append test i (x ∷ xs) c =
    let e : i + 1 + length xs ≡ i + suc (length xs) = omega arith in if-append (test x) i (places_from test (i + 1) (xs ++ c ∷ [])) (places_from test (i + 1) xs) (places_from test (i + suc (length xs)) (c ∷ []))
    (places_from-append test (i + 1) xs c ∙ ap (λ (n : ℕ). places_from test (i + 1) xs ++ places_from test n (c ∷ [])) e)

-- one more code
pub places_from-take : {X : Type 0} (test : X → Bool) (codes : List X) (i : ℕ) (d : X) → i < length codes
    → places_from test 0 (take (i + 1) codes) ≡ places_from test 0 (take i codes) ++ places_from test i (get_or codes i d ∷ [])
places_from-take test codes i d h =
    let more : take (i + 1) codes ≡ take i codes ++ get_or codes i d ∷ [] = ap (λ (k : ℕ). take k codes) (add-one i) ∙ take-suc codes i d h in
    let size : length (take i codes) ≡ i = length-take-le i codes (omega arith) in
    ap (λ l. places_from test 0 l) more ∙ places_from-append test 0 (take i codes) (get_or codes i d)
    ∙ ap (λ (k : ℕ). places_from test 0 (take i codes) ++ places_from test k (get_or codes i d ∷ [])) (omega arith)

pub places_from-one : {X : Type 0} (test : X → Bool) (i : ℕ) (c : X) → test c ≡ true → places_from test i (c ∷ []) ≡ i ∷ []
places_from-one test i c e = rw e refl

pub places_from-none : {X : Type 0} (test : X → Bool) (i : ℕ) (c : X) → test c ≡ false → places_from test i (c ∷ []) ≡ []
places_from-none test i c e = rw e refl

pub places_from-both : {X : Type 0} (test : X → Bool) (i : ℕ) (xs ys : List X)
    → places_from test i (xs ++ ys) ≡ places_from test i xs ++ places_from test (i + length xs) ys
places_from-both test i [] ys = let e : i ≡ i + 0 = omega arith in ap (λ (n : ℕ). places_from test n ys) e
places_from-both test i (x ∷ xs) ys =
    let e : i + 1 + length xs ≡ i + suc (length xs) = omega arith in
    if-append (test x) i (places_from test (i + 1) (xs ++ ys)) (places_from test (i + 1) xs) (places_from test (i + suc (length xs)) ys)
    (places_from-both test (i + 1) xs ys ∙ ap (λ (n : ℕ). places_from test (i + 1) xs ++ places_from test n ys) e)

-- a range that is one longer
pub range_with_len-more : (a n : ℕ) → range_with_len a n ++ (a + n) ∷ [] ≡ range_with_len a (n + 1)
range_with_len-more a zero = let e : a + 0 ≡ a = omega arith in rw e refl
range_with_len-more a (suc n) =
    let e : suc n + 1 ≡ suc (n + 1) = omega arith in
    let f : a + suc n ≡ a + 1 + n = omega arith in
    rw (e, f) (ap (λ (l : List ℕ). a ∷ l) (range_with_len-more (a + 1) n))

-- elements that all pass give all their places
pub places_from-all : {X : Type 0} (test : X → Bool) (j n : ℕ) (xs : List X) (d : X) → j + n ≤ length xs → ((i : ℕ) → j ≤ i → i < j + n → test (get_or xs i d) ≡ true)
    → places_from test 0 (take (j + n) xs) ≡ places_from test 0 (take j xs) ++ range_with_len j n
places_from-all test j zero xs d h all = let same : j + 0 ≡ j = omega arith in ap (λ (k : ℕ). places_from test 0 (take k xs)) same ∙ sym (append-nil (places_from test 0 (take j xs)))
places_from-all test j (suc n) xs d h all =
    let same : j + suc n ≡ j + n + 1 = omega arith in
    let next : n + 1 ≡ suc n = omega arith in
    ap (λ (k : ℕ). places_from test 0 (take k xs)) same ∙ places_from-take test xs (j + n) d (omega (arith, h))
    ∙ ap (λ (l : List ℕ). places_from test 0 (take (j + n) xs) ++ l) (places_from-one test (j + n) (get_or xs (j + n) d) (all (j + n) (omega arith) (omega arith)))
    ∙ ap (λ (l : List ℕ). l ++ (j + n) ∷ []) (places_from-all test j n xs d (omega (arith, h)) (λ i a b. all i a (omega (arith, b))))
    ∙ append_assoc (places_from test 0 (take j xs)) (range_with_len j n) ((j + n) ∷ [])
    ∙ ap (λ (l : List ℕ). places_from test 0 (take j xs) ++ l) (range_with_len-more j n ∙ ap (λ (k : ℕ). range_with_len j k) next)
