-- Laws on the binary digits of words.
use Rattle.std.proofs.Common.{◌≡◌, ℕ, zero, suc, ◌+◌, ◌-◌, ◌*◌, ◌/◌, ◌%◌, ◌^◌, ◌<◌, ◌≤◌, eqb, min, Bool, true, false, cond, ◌&&◌, inl, inr, List, [], ◌∷◌, ◌++◌, length, get_or, refl, sym, ◌∙◌, ap, arith, mul_assoc, length-append, append-nil}
use Rattle.std.proofs.lemmas.List.{length-replicate}
use Rattle.std.proofs.lemmas.Nat.{pow-add, shr-shr, shr_le}
use Rattle.std.proofs.lemmas.Nat.Bits.{bit_at-zero, bit_at_lowest, bit_at-suc, bit_at_above, bit_at-trailing_zeros}
use Rattle.std.proofs.Math.Nat.{mul-add, mul-one}
use Rattle.std.proofs.lemmas.Bool.{cases_lt}
use Rattle.std.specs.Prelude.{replicate}
use Rattle.std.specs.Int.{bit_at, trailing_zeros, w64}
use Rattle.std.specs.Int.Bits.{bit_and, and_step}
use Rattle.std.specs.Simd.Lanes.{mask_l}
use Rattle.ut_mask.specs.Mask.{both, bits_of, word_bits}

pub length-bits_of : (n x : ℕ) → length (bits_of n x) ≡ n
length-bits_of zero x = refl
length-bits_of (suc n) x = ap suc (length-bits_of n (x / 2))

pub length-word_bits : (w : ℕ) → length (word_bits w) ≡ 64
unfolding word_bits
length-word_bits w = length-bits_of 64 w

bits_of-zero : (n : ℕ) → bits_of n 0 ≡ replicate n false
bits_of-zero zero = refl
bits_of-zero (suc n) = ap (λ (l : List Bool). false ∷ l) (bits_of-zero n)

mask-digit : (b : Bool) (m : ℕ) → eqb ((cond b 1 0 + 2 * m) % 2) 1 ≡ b
mask-digit true m = let e : (1 + 2 * m) % 2 ≡ 1 = omega arith in ap (λ (k : ℕ). eqb k 1) e
mask-digit false m = let e : (0 + 2 * m) % 2 ≡ 0 = omega arith in ap (λ (k : ℕ). eqb k 1) e

mask-half : (b : Bool) (m : ℕ) → (cond b 1 0 + 2 * m) / 2 ≡ m
mask-half true m = omega arith
mask-half false m = omega arith

-- the digits of the number that a list of digits spells
pub bits_of-mask_l : (n m : ℕ) (bs : List Bool) → n ≡ length bs + m → bits_of n (mask_l bs) ≡ bs ++ replicate m false
bits_of-mask_l n m [] e = let same : n ≡ m = omega (arith, e) in ap (λ (k : ℕ). bits_of k 0) same ∙ bits_of-zero m
bits_of-mask_l zero m (b ∷ bs) e = absurd (omega (arith, e))
bits_of-mask_l (suc n) m (b ∷ bs) e =
    let rest = bits_of-mask_l n m bs (omega (arith, e)) in
    ap (λ (d : Bool). d ∷ bits_of n ((cond b 1 0 + 2 * mask_l bs) / 2)) (mask-digit b (mask_l bs))
    ∙ ap (λ (k : ℕ). b ∷ bits_of n k) (mask-half b (mask_l bs))
    ∙ ap (λ (l : List Bool). b ∷ l) rest

digit-value : (d : ℕ) → d < 2 → cond (eqb d 1) 1 0 ≡ d
digit-value zero h = refl
digit-value (suc zero) h = refl
digit-value (suc (suc d)) h = absurd (omega (arith, h))

-- the number that its digits spell
pub mask_l-bits_of : (n x : ℕ) → x < 2 ^ n → mask_l (bits_of n x) ≡ x
mask_l-bits_of zero x h = omega (arith, h)
mask_l-bits_of (suc n) x h =
    let rest = mask_l-bits_of n (x / 2) (omega (arith, h)) in
    let low = digit-value (x % 2) (omega arith) in
    omega (arith, rest, low)

both-digits : (a b : ℕ) → a < 2 → b < 2 → eqb (min a b) 1 ≡ (eqb a 1 && eqb b 1)
both-digits zero zero h k = refl
both-digits zero (suc zero) h k = refl
both-digits zero (suc (suc b)) h k = absurd (omega (arith, k))
both-digits (suc zero) zero h k = refl
both-digits (suc zero) (suc zero) h k = refl
both-digits (suc zero) (suc (suc b)) h k = absurd (omega (arith, k))
both-digits (suc (suc a)) b h k = absurd (omega (arith, h))

-- the digits of an "and"
pub bits_of-and : (n x y : ℕ) → bits_of n (bit_and x y) ≡ both (bits_of n x) (bits_of n y)
bits_of-and zero x y = refl
bits_of-and (suc n) x y =
    let step = and_step x y in
    let low : bit_and x y % 2 ≡ min (x % 2) (y % 2) = omega (arith, step) in
    let high : bit_and x y / 2 ≡ bit_and (x / 2) (y / 2) = omega (arith, step) in
    ap (λ (d : ℕ). eqb d 1 ∷ bits_of n (bit_and x y / 2)) low
    ∙ ap (λ (d : Bool). d ∷ bits_of n (bit_and x y / 2)) (both-digits (x % 2) (y % 2) (omega arith) (omega arith))
    ∙ ap (λ (k : ℕ). (eqb (x % 2) 1 && eqb (y % 2) 1) ∷ bits_of n k) high
    ∙ ap (λ (l : List Bool). (eqb (x % 2) 1 && eqb (y % 2) 1) ∷ l) (bits_of-and n (x / 2) (y / 2))

pub word_bits-and : (x y : ℕ) → word_bits (bit_and x y) ≡ both (word_bits x) (word_bits y)
unfolding word_bits
word_bits-and x y = bits_of-and 64 x y

-- the digits of the word that up to 64 digits spell
pub word_bits-mask_l : (m : ℕ) (bs : List Bool) → length bs + m ≡ 64 → word_bits (mask_l bs) ≡ bs ++ replicate m false
unfolding word_bits
word_bits-mask_l m bs e = bits_of-mask_l 64 m bs (sym e)

pub mask_l-word_bits : (w : ℕ) → w < 2 ^ 64 → mask_l (word_bits w) ≡ w
unfolding word_bits
mask_l-word_bits w h = mask_l-bits_of 64 w h

doubled-front : (p q m y : ℕ) → q ≡ 2 * p → m + 1 ≡ p * y → 1 + 2 * m + 1 ≡ q * y
doubled-front p q m y e h = omega (arith, ap (λ (k : ℕ). k * y) e, mul_assoc 2 p y, h)

mask_l-true : (n : ℕ) (bs : List Bool) → mask_l (replicate n true ++ bs) + 1 ≡ 2 ^ n * (1 + mask_l bs)
mask_l-true zero bs = omega arith
mask_l-true (suc n) bs = doubled-front (2 ^ n) (2 ^ suc n) (mask_l (replicate n true ++ bs)) (1 + mask_l bs) (omega arith) (mask_l-true n bs)

doubled : (p q m y : ℕ) → q ≡ 2 * p → m ≡ p * y → 0 + 2 * m ≡ q * y
doubled p q m y e h = omega (arith, ap (λ (k : ℕ). k * y) e, mul_assoc 2 p y, h)

mask_l-false : (n : ℕ) (bs : List Bool) → mask_l (replicate n false ++ bs) ≡ 2 ^ n * mask_l bs
mask_l-false zero bs = omega arith
mask_l-false (suc n) bs = doubled (2 ^ n) (2 ^ suc n) (mask_l (replicate n false ++ bs)) (mask_l bs) (omega arith) (mask_l-false n bs)

mask_l-ones : (n : ℕ) → mask_l (replicate n true) + 1 ≡ 2 ^ n
mask_l-ones zero = refl
mask_l-ones (suc n) = let rest = mask_l-ones n in omega (arith, rest)

-- the word whose lowest r digits are 1
pub word_bits-ones : (r m x : ℕ) → r + m ≡ 64 → x + 1 ≡ 2 ^ r → word_bits x ≡ replicate r true ++ replicate m false
word_bits-ones r m x e is =
    let same : x ≡ mask_l (replicate r true) = omega (arith, is, mask_l-ones r) in
    ap (λ (k : ℕ). word_bits k) same ∙ word_bits-mask_l m (replicate r true) (omega (arith, e, length-replicate r true))

products : (p q r t m n s u : ℕ) → t + 1 ≡ r → m + 1 ≡ p * (1 + n) → n ≡ q * t → s ≡ p * q → u ≡ p * q * r → m + s + 1 ≡ p + u
products p q r t m n s u e f g h k =
    let first : p * (1 + n) ≡ p + p * n = mul-add p 1 n ∙ ap (λ (x : ℕ). x + p * n) (mul-one p) in
    let second : p * n ≡ p * q * t = ap (λ (x : ℕ). p * x) g ∙ sym (mul_assoc p q t) in
    let third : p * q * r ≡ p * q * t + p * q = ap (λ (x : ℕ). p * q * x) (sym e) ∙ mul-add (p * q) t 1 ∙ ap (λ (x : ℕ). p * q * t + x) (mul-one (p * q)) in
    omega (arith, f, h, k, first, second, third)

-- the word whose digits are 1 but for b of them behind the lowest a
pub word_bits-outside : (a b c x : ℕ) → a + b + c ≡ 64 → x + 2 ^ (a + b) + 1 ≡ 2 ^ a + 2 ^ 64 → word_bits x ≡ replicate a true ++ (replicate b false ++ replicate c true)
word_bits-outside a b c x e is =
    let bs : List Bool = replicate a true ++ (replicate b false ++ replicate c true) in
    let long : length bs + 0 ≡ 64 = omega (arith, e, length-append (replicate a true) (replicate b false ++ replicate c true), length-append (replicate b false) (replicate c true), length-replicate a true, length-replicate b false, length-replicate c true) in
    let same : x ≡ mask_l bs = omega (arith, is, spelled a b c e) in
    ap (λ (k : ℕ). word_bits k) same ∙ word_bits-mask_l 0 bs long ∙ append-nil bs
  where
    spelled : (a b c : ℕ) → a + b + c ≡ 64 → mask_l (replicate a true ++ (replicate b false ++ replicate c true)) + 2 ^ (a + b) + 1 ≡ 2 ^ a + 2 ^ 64
    spelled a b c e =
        let first = mask_l-true a (replicate b false ++ replicate c true) in
        let second = mask_l-false b (replicate c true) in
        let third = mask_l-ones c in
        let sum : 2 ^ (a + b) ≡ 2 ^ a * 2 ^ b = pow-add 2 a b in
        let all : 2 ^ 64 ≡ 2 ^ a * 2 ^ b * 2 ^ c = ap (λ (k : ℕ). 2 ^ k) (sym e) ∙ pow-add 2 (a + b) c ∙ ap (λ (k : ℕ). k * 2 ^ c) sum in
        products (2 ^ a) (2 ^ b) (2 ^ c) (mask_l (replicate c true)) _ _ _ _ third first second sum all

digit-at : (n x j : ℕ) → j < n → get_or (bits_of n x) j false ≡ eqb (bit_at x j) 1
digit-at zero x j h = absurd (omega (arith, h))
digit-at (suc n) x zero h = ap (λ (k : ℕ). eqb k 1) (sym (bit_at_lowest x))
digit-at (suc n) x (suc j) h = digit-at n (x / 2) j (omega (arith, h)) ∙ ap (λ (k : ℕ). eqb k 1) (sym (bit_at-suc x j))

word_digit-at : (x j : ℕ) → j < 64 → get_or (word_bits x) j false ≡ eqb (bit_at x j) 1
unfolding word_bits
word_digit-at x j h = digit-at 64 x j h

bit_at-shifted : (x f i : ℕ) → bit_at (x / 2 ^ f) i ≡ bit_at x (f + i)
bit_at-shifted x f i = ap (λ (k : ℕ). k % 2) (shr-shr x f i)

-- no digit from f on is 1
pub word_bits-none : (x f j : ℕ) → x / 2 ^ f ≡ 0 → f ≤ j → j < 64 → get_or (word_bits x) j false ≡ false
word_bits-none x f j e le h =
    let sum : f + (j - f) ≡ j = omega (arith, le) in
    let none : bit_at x j ≡ 0 = ap (λ (k : ℕ). bit_at x k) (sym sum) ∙ sym (bit_at-shifted x f (j - f)) ∙ ap (λ (k : ℕ). bit_at k (j - f)) e ∙ bit_at-zero (j - f) in
    word_digit-at x j h ∙ ap (λ (k : ℕ). eqb k 1) none

-- the lowest digit from one on that is 1
pub record IsLowest (x f at : ℕ) : Type 0 where
  pub behind : f ≤ at
  pub within : at < 64
  pub stands : get_or (word_bits x) at false ≡ true
  pub first : (j : ℕ) → f ≤ j → j < at → get_or (word_bits x) j false ≡ false

pub word_bits-lowest : (x f : ℕ) → x < 2 ^ 64 → 0 < x / 2 ^ f → IsLowest x f (f + trailing_zeros w64 (x / 2 ^ f))
word_bits-lowest x f h some =
    let zeros = trailing_zeros w64 (x / 2 ^ f) in
    let small : x / 2 ^ f < 2 ^ 64 = omega (arith, h, shr_le x f) in
    let found = bit_at-trailing_zeros w64 (x / 2 ^ f) some small in
    let one : bit_at x (f + zeros) ≡ 1 = sym (bit_at-shifted x f zeros) ∙ found.1 in
    let inside : f + zeros < 64 = elim (cases_lt (f + zeros) 64) [ inl less ↦ less | inr more ↦ absurd (omega (arith, one, bit_at_above x 64 (f + zeros) h more)) ] in
    record {
      behind = omega arith;
      within = inside;
      stands = word_digit-at x (f + zeros) inside ∙ ap (λ (k : ℕ). eqb k 1) one;
      first =
          λ j le less.
          let sum : f + (j - f) ≡ j = omega (arith, le) in
          let none : bit_at x j ≡ 0 = ap (λ (k : ℕ). bit_at x k) (sym sum) ∙ sym (bit_at-shifted x f (j - f)) ∙ found.2 (j - f) (omega (arith, le, less)) in
          word_digit-at x j (omega (arith, less, inside)) ∙ ap (λ (k : ℕ). eqb k 1) none;
    }
