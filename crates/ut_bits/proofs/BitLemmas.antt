-- Laws on numbers as bytes and as fields of bits.
use Rattle.std.proofs.Common.{◌≡◌, ℕ, zero, suc, ◌+◌, ◌-◌, ◌*◌, ◌/◌, ◌%◌, ◌^◌, ◌<◌, ◌≤◌, inl, inr, List, [], ◌∷◌, ◌++◌, length, take, drop, get_or, refl, sym, ◌∙◌, ap, subst, arith, add-one, length-append}
use Rattle.std.proofs.lemmas.List.{length-drop, take_all, length-take-le}
use Rattle.std.proofs.Math.Seq.{take-suc, take-append_seam}
use Rattle.std.proofs.lemmas.Nat.{pow-add, shr-shr, pow_pos, field_of, shl_whole, or_shifted, div-mul-add, mod-mul-add, div-add-mod', div_below, mul-add-lt, mod_below, mul-le}
use Rattle.std.proofs.lemmas.Bool.{cases_lt}
use Rattle.std.proofs.Math.Nat.{pow-suc, mul_comm, mod-one, zero-div, pow-le-pow_right, div-div-eq-div-mul, div-eq_of_lt}
use Rattle.std.proofs.Math.Pow.{mod-mod-pow}
use Rattle.std.specs.Int.{bytes_low_first, to_le_bytes, w32, w64}
use lib.Bits.{bit_or}
use Rattle.byteorder.specs.Endian.{little_from}
use Rattle.byteorder.specs.Numbers.{little_from-cons}
use Rattle.byteorder.proofs.Bytes.{take-bytes_low_first}
use Rattle.ut_bits.specs.Bits.{number_of, bytes_of, joined, fields, byte_count, packed_bytes, AllBelow}

-- the low field and the rest of a number
pub low_field : (c m n : ℕ) → c < m → (c + m * n) % m ≡ c
low_field c m n h = let e : c + m * n ≡ n * m + c = grind arith in rw e (mod-mul-add n m c h)

pub high_fields : (c m n : ℕ) → c < m → (c + m * n) / m ≡ n
high_fields c m n h = let e : c + m * n ≡ n * m + c = grind arith in rw e (div-mul-add n m c h)

-- a digit in front of a number that goes on
shift_in : (x n p m k : ℕ) → x + k * (n + p * m) ≡ x + k * n + p * k * m
shift_in x n p m k = grind arith

-- one more field
pub pow-fields : (n w : ℕ) → 2 ^ (suc n * w) ≡ 2 ^ w * 2 ^ (n * w)
pow-fields n w = let e : suc n * w ≡ w + n * w = grind arith in rw e (pow-add 2 w (n * w))

pub number_of-append : (xs ys : List ℕ) → number_of (xs ++ ys) ≡ number_of xs + 256 ^ length xs * number_of ys
number_of-append [] ys = grind arith
number_of-append (x ∷ xs) ys =
    rw (number_of-append xs ys, pow-suc 256 (length xs)) (shift_in x (number_of xs) (256 ^ length xs) (number_of ys) 256)

pub length-bytes_of : (n x : ℕ) → length (bytes_of n x) ≡ n
length-bytes_of zero x = refl
length-bytes_of (suc n) x = ap suc (length-bytes_of n (x / 256))

pub number_of-bytes_of : (n x : ℕ) → x < 256 ^ n → number_of (bytes_of n x) ≡ x
number_of-bytes_of zero x h = omega arith
number_of-bytes_of (suc n) x h =
    let below : x < 256 ^ n * 256 = omega (arith, pow-suc 256 n, h) in
    let rest : number_of (bytes_of n (x / 256)) ≡ x / 256 = number_of-bytes_of n (x / 256) (div_below x 256 (256 ^ n) (omega arith) below) in
    rw rest (omega arith)

pub bytes_of-number_of : (xs : List ℕ) → AllBelow 256 xs → bytes_of (length xs) (number_of xs) ≡ xs
bytes_of-number_of [] h = refl
bytes_of-number_of (x ∷ xs) h =
    rw (low_field x 256 (number_of xs) h.0, high_fields x 256 (number_of xs) h.0, bytes_of-number_of xs h.1) refl

pub number_of-below : (xs : List ℕ) → AllBelow 256 xs → number_of xs < 256 ^ length xs
number_of-below [] h = omega arith
number_of-below (x ∷ xs) h = omega (arith, pow-suc 256 (length xs), number_of-below xs h.1, h.0)

shift_out : (x n p m k : ℕ) → x + k * (n + p * m) ≡ x + k * n + k * p * m
shift_out x n p m k = grind arith

pub joined-append : (w : ℕ) (cs : List ℕ) (c : ℕ) → joined w (cs ++ c ∷ []) ≡ joined w cs + 2 ^ (length cs * w) * c
joined-append w [] c = let e : 0 * w ≡ 0 = grind arith in rw e (omega arith)
joined-append w (d ∷ cs) c =
    rw (joined-append w cs c, pow-fields (length cs) w) (shift_out d (joined w cs) (2 ^ (length cs * w)) c (2 ^ w))

pub fields-joined : (w : ℕ) (cs : List ℕ) → AllBelow (2 ^ w) cs → fields w (length cs) (joined w cs) ≡ cs
fields-joined w [] h = refl
fields-joined w (c ∷ cs) h =
    rw (low_field c (2 ^ w) (joined w cs) h.0, high_fields c (2 ^ w) (joined w cs) h.0, fields-joined w cs h.1) refl

below_product : (c n k p : ℕ) → c < k → n < p → c + k * n < k * p
below_product c n k p h q = let e : c + k * n ≡ n * k + c = grind arith in rw e (mul-add-lt n k c p q h)

pub joined-below : (w : ℕ) (cs : List ℕ) → AllBelow (2 ^ w) cs → joined w cs < 2 ^ (length cs * w)
joined-below w [] h = pow_pos (0 * w)
joined-below w (c ∷ cs) h =
    rw (pow-fields (length cs) w) (below_product c (joined w cs) (2 ^ w) (2 ^ (length cs * w)) h.0 (joined-below w cs h.1))

pub length-fields : (w n x : ℕ) → length (fields w n x) ≡ n
length-fields w zero x = refl
length-fields w (suc n) x = ap suc (length-fields w n (x / 2 ^ w))

pub AllBelow-fields : (w n x : ℕ) → AllBelow (2 ^ w) (fields w n x)
AllBelow-fields w zero x = tt
AllBelow-fields w (suc n) x = (mod_below x (2 ^ w) (pow_pos w), AllBelow-fields w n (x / 2 ^ w))

whole : (x m : ℕ) → x % m + m * (x / m) ≡ x
whole x m = let e : x % m + m * (x / m) ≡ x / m * m + x % m = grind arith in e ∙ div-add-mod' x m

pub joined-fields : (w n x : ℕ) → x < 2 ^ (n * w) → joined w (fields w n x) ≡ x
joined-fields w zero x h = let e : 0 * w ≡ 0 = grind arith in let small : x < 2 ^ 0 = subst (λ (k : ℕ). x < 2 ^ k) e h in omega arith
joined-fields w (suc n) x h =
    let e : 2 ^ (suc n * w) ≡ 2 ^ (n * w) * 2 ^ w = pow-fields n w ∙ mul_comm (2 ^ w) (2 ^ (n * w)) in
    let below : x < 2 ^ (n * w) * 2 ^ w = subst (λ (k : ℕ). x < k) e h in
    rw (joined-fields w n (x / 2 ^ w) (div_below x (2 ^ w) (2 ^ (n * w)) (pow_pos w) below))
    (whole x (2 ^ w))

pub get_or-fields : (w n x i : ℕ) → i < n → get_or (fields w n x) i 0 ≡ x / 2 ^ (i * w) % 2 ^ w
get_or-fields w zero x i h = absurd (omega arith)
get_or-fields w (suc n) x zero h = let e : 0 * w ≡ 0 = grind arith in let one : x / 2 ^ 0 ≡ x = omega arith in rw (e, one) refl
get_or-fields w (suc n) x (suc i) h =
    let e : suc i * w ≡ w + i * w = grind arith in
    get_or-fields w n (x / 2 ^ w) i (omega arith) ∙ rw (e, shr-shr x w (i * w)) refl

-- what each byte is below, from what is known of each place
pub AllBelow-from_places : (n : ℕ) (xs : List ℕ) → ((i : ℕ) → get_or xs i 0 < n) → AllBelow n xs
AllBelow-from_places n [] h = tt
AllBelow-from_places n (x ∷ xs) h = (h 0, AllBelow-from_places n xs (λ i. h (suc i)))

pub AllBelow-at : (n : ℕ) (xs : List ℕ) (i : ℕ) → AllBelow n xs → i < length xs → get_or xs i 0 < n
AllBelow-at n [] i h below = absurd (omega arith)
AllBelow-at n (x ∷ xs) zero h below = h.0
AllBelow-at n (x ∷ xs) (suc i) h below = AllBelow-at n xs i h.1 (omega arith)

-- the low fields of a number that has one more in front
pub mod_in_front : (x n m p : ℕ) → x < m → 0 < p → (x + m * n) % (m * p) ≡ x + m * (n % p)
mod_in_front x n m p h pos =
    let below : x + m * (n % p) < m * p = below_product x (n % p) m p h (mod_below n p pos) in
    let split : n / p * p + n % p ≡ n = div-add-mod' n p in
    let e : x + m * n ≡ n / p * (m * p) + (x + m * (n % p)) = ap (λ (k : ℕ). x + m * k) (sym split) ∙ regroup x m (n / p) p (n % p) in
    rw e (mod-mul-add (n / p) (m * p) (x + m * (n % p)) below)
  where
    regroup : (a b c d e : ℕ) → a + b * (c * d + e) ≡ c * (b * d) + (a + b * e)
    regroup a b c d e = grind arith

pub pow256 : (n : ℕ) → 256 ^ n ≡ 2 ^ (8 * n)
pow256 zero = refl
pow256 (suc n) = let e : 8 * suc n ≡ 8 * n + 8 = omega arith in rw (pow-suc 256 n, pow256 n, e, pow-add 2 (8 * n) 8) refl

pub pos256 : (n : ℕ) → 0 < 256 ^ n
pos256 n = rw (pow256 n) (pow_pos (8 * n))

-- the number in the first n bytes, as `byteorder` reads it
pub little_from-mod : (n : ℕ) (xs : List ℕ) → AllBelow 256 xs → n ≤ length xs → little_from 0 n xs ≡ number_of xs % 256 ^ n
little_from-mod zero xs h le = sym (mod-one (number_of xs))
little_from-mod (suc n) [] h le = absurd (omega arith)
little_from-mod (suc n) (x ∷ xs) h le =
    let e : 256 ^ suc n ≡ 256 * 256 ^ n = pow-suc 256 n ∙ mul_comm (256 ^ n) 256 in
    rw (little_from-cons 0 n x xs, little_from-mod n xs h.1 (omega arith), e) (sym (mod_in_front x (number_of xs) 256 (256 ^ n) h.0 (pos256 n)))

pub number_of-drop : (k : ℕ) (xs : List ℕ) → AllBelow 256 xs → number_of (drop k xs) ≡ number_of xs / 256 ^ k
number_of-drop zero xs h = omega arith
number_of-drop (suc k) [] h = sym (zero-div (256 ^ suc k))
number_of-drop (suc k) (x ∷ xs) h =
    let e : 256 ^ suc k ≡ 256 * 256 ^ k = pow-suc 256 k ∙ mul_comm (256 ^ k) 256 in
    number_of-drop k xs h.1
    ∙ rw (e, ← div-div-eq-div-mul (x + 256 * number_of xs) 256 (256 ^ k), high_fields x 256 (number_of xs) h.0) refl

pub AllBelow-drop : (n k : ℕ) (xs : List ℕ) → AllBelow n xs → AllBelow n (drop k xs)
AllBelow-drop n zero xs h = h
AllBelow-drop n (suc k) [] h = tt
AllBelow-drop n (suc k) (x ∷ xs) h = AllBelow-drop n k xs h.1

-- the field of w bits from bit b on, read from the eight bytes that hold its first bit
pub field_from_word : (x b w : ℕ) → w ≤ 32 → x / 256 ^ (b / 8) % 256 ^ 8 / 2 ^ (b % 8) % 2 ^ w ≡ x / 2 ^ b % 2 ^ w
field_from_word x b w h =
    let s : b % 8 < 8 = omega arith in
    let top : 64 ≡ 64 - b % 8 + b % 8 = omega arith in
    let word : 256 ^ 8 ≡ 2 ^ (64 - b % 8 + b % 8) = pow256 8 ∙ ap (λ (k : ℕ). 2 ^ k) top in
    let place : 8 * (b / 8) + b % 8 ≡ b = omega arith in
    let mask : 64 - b % 8 ≡ 64 - b % 8 - w + w = omega arith in
    rw (word, field_of (x / 256 ^ (b / 8)) (64 - b % 8) (b % 8), pow256 (b / 8), shr-shr x (8 * (b / 8)) (b % 8), place, mask, mod-mod-pow (x / 2 ^ b) (64 - b % 8 - w) w)
    refl

-- bits that are put above the ones in a word
pub word-put : (value bits word width : ℕ) → bits < 32 → width ≤ 32 → value < 2 ^ width → word < 2 ^ bits
    → (bit_or (value * 2 ^ bits % 2 ^ 64) word ≡ word + 2 ^ bits * value) × (bit_or (value * 2 ^ bits % 2 ^ 64) word < 2 ^ (bits + width))
word-put value bits word width small narrow v w =
    let shift : value * 2 ^ bits % 2 ^ 64 ≡ value * 2 ^ bits = shl_whole value width bits 64 v (omega arith) in
    let sum : bit_or (value * 2 ^ bits % 2 ^ 64) word ≡ word + 2 ^ bits * value =
    rw (shift, or_shifted value bits word w) (grind arith) in
    (sum, rw (sum, pow-add 2 bits width) (below_product word value (2 ^ bits) (2 ^ width) w v))

-- `to_le_bytes` gives these bytes
pub bytes_low_first-bytes_of : (i n x : ℕ) → bytes_low_first i n x ≡ bytes_of n (x / 256 ^ i)
bytes_low_first-bytes_of i zero x = refl
bytes_low_first-bytes_of zero (suc n) x =
    let one : x / 256 ^ 0 ≡ x = omega arith in
    let next : 256 ^ 1 ≡ 256 = refl in
    rw (bytes_low_first-bytes_of 1 n x, one, next) refl
bytes_low_first-bytes_of (suc i) (suc n) x =
    let e : 256 ^ suc (suc i) ≡ 256 ^ suc i * 256 = pow-suc 256 (suc i) in
    rw (bytes_low_first-bytes_of (suc (suc i)) n x, e, ← div-div-eq-div-mul x (256 ^ suc i) 256) refl

pub number_of-le_bytes_4 : (x : ℕ) → x < 2 ^ 32 → number_of (to_le_bytes w32 x) ≡ x
number_of-le_bytes_4 x h =
    let one : x / 256 ^ 0 ≡ x = omega arith in
    ap number_of (bytes_low_first-bytes_of 0 4 x) ∙ ap (λ (k : ℕ). number_of (bytes_of 4 k)) one ∙ number_of-bytes_of 4 x h

-- 32 bits go from the word into the bytes
pub number_of-flush : (xs ys : List ℕ) (w : ℕ) → number_of ys ≡ w % 2 ^ 32
    → number_of (xs ++ ys) + 256 ^ length xs * 2 ^ 32 * (w / 2 ^ 32) ≡ number_of xs + 256 ^ length xs * w
number_of-flush xs ys w low =
    let split : w % 2 ^ 32 + 2 ^ 32 * (w / 2 ^ 32) ≡ w = whole w (2 ^ 32) in
    rw (number_of-append xs ys, low)
    (regroup (number_of xs) (256 ^ length xs) (w % 2 ^ 32) (w / 2 ^ 32) (2 ^ 32) ∙ ap (λ (k : ℕ). number_of xs + 256 ^ length xs * k) split)
  where
    regroup : (a b c d e : ℕ) → a + b * c + b * e * d ≡ a + b * (c + e * d)
    regroup a b c d e = grind arith

-- the bytes of a number that goes on behind whole bytes
pub bytes_of-behind : (n : ℕ) (xs : List ℕ) (x : ℕ) → AllBelow 256 xs → bytes_of (length xs + n) (number_of xs + 256 ^ length xs * x) ≡ xs ++ bytes_of n x
bytes_of-behind n [] x h = let a : 0 + n ≡ n = omega arith in let b : 0 + 256 ^ 0 * x ≡ x = omega arith in rw (a, b) refl
bytes_of-behind n (y ∷ ys) x h =
    let a : suc (length ys) + n ≡ suc (length ys + n) = omega arith in
    let b : y + 256 * number_of ys + 256 ^ suc (length ys) * x ≡ y + 256 * (number_of ys + 256 ^ length ys * x) =
    rw (pow-suc 256 (length ys)) (regroup y (number_of ys) (256 ^ length ys) x) in
    rw (a, b, low_field y 256 (number_of ys + 256 ^ length ys * x) h.0, high_fields y 256 (number_of ys + 256 ^ length ys * x) h.0, bytes_of-behind n ys x h.1)
    refl
  where
    regroup : (a b c d : ℕ) → a + 256 * b + c * 256 * d ≡ a + 256 * (b + c * d)
    regroup a b c d = grind arith

-- the view of a writer after a value was put
pub number_of-put : (n p q bits value word after : ℕ) → after ≡ word + 2 ^ bits * value → q ≡ p * 2 ^ bits → n + p * after ≡ n + p * word + q * value
number_of-put n p q bits value word after e f = rw (e, f) (grind arith)

pub pow-places : (l bits : ℕ) → 2 ^ (8 * l + bits) ≡ 256 ^ l * 2 ^ bits
pow-places l bits = rw (pow-add 2 (8 * l) bits, pow256 l) refl

pub field_within : (i n w : ℕ) → i < n → i * w / 8 ≤ byte_count (n * w)
field_within i n w h = let le : i * w ≤ n * w = mul-le i w n w (omega arith) (omega arith) in omega arith

-- the first bytes of the ones that spell a number
pub bytes_of-take : (k : ℕ) (xs : List ℕ) → AllBelow 256 xs → k ≤ length xs → bytes_of k (number_of xs) ≡ take k xs
bytes_of-take zero xs h le = refl
bytes_of-take (suc k) [] h le = absurd (omega arith)
bytes_of-take (suc k) (x ∷ xs) h le =
    rw (low_field x 256 (number_of xs) h.0, high_fields x 256 (number_of xs) h.0, bytes_of-take k xs h.1 (omega arith)) refl

-- bits fit the bytes that they take
pub below_bytes : (n x : ℕ) → x < 2 ^ n → x < 256 ^ byte_count n
below_bytes n x h =
    let le : 2 ^ n ≤ 2 ^ (8 * byte_count n) = (let two : 0 < 2 = omega arith in pow-le-pow_right two (omega arith)) in
    rw (pow256 (byte_count n)) (omega arith)

pub number_of-zeros : (xs : List ℕ) → number_of (xs ++ (0 ∷ 0 ∷ 0 ∷ 0 ∷ 0 ∷ 0 ∷ 0 ∷ 0 ∷ [])) ≡ number_of xs
number_of-zeros xs = number_of-append xs (0 ∷ 0 ∷ 0 ∷ 0 ∷ 0 ∷ 0 ∷ 0 ∷ 0 ∷ []) ∙ omega arith

-- what the bytes of codes spell
pub number_of-packed_bytes : (w : ℕ) (codes : List ℕ) → AllBelow (2 ^ w) codes → number_of (packed_bytes w codes) ≡ joined w codes
number_of-packed_bytes w codes h =
    number_of-bytes_of (byte_count (length codes * w)) (joined w codes) (below_bytes (length codes * w) (joined w codes) (joined-below w codes h))

-- the bytes of the codes that bytes hold
pub packed_bytes-fields : (w n : ℕ) (xs : List ℕ) → AllBelow 256 xs → byte_count (n * w) ≤ length xs → number_of xs < 2 ^ (n * w)
    → packed_bytes w (fields w n (number_of xs)) ≡ take (byte_count (n * w)) xs
packed_bytes-fields w n xs h le below =
    rw (length-fields w n (number_of xs), joined-fields w n (number_of xs) below) (bytes_of-take (byte_count (n * w)) xs h le)

-- the view of a writer after a value was put and 32 bits went into the bytes
pub number_of-put_flush : (xs ys zs : List ℕ) (bits value word after : ℕ) → zs ≡ xs ++ ys → length ys ≡ 4 → number_of ys ≡ after % 2 ^ 32 → after ≡ word + 2 ^ bits * value
    → number_of zs + 256 ^ length zs * (after / 2 ^ 32) ≡ number_of xs + 256 ^ length xs * word + 2 ^ (8 * length xs + bits) * value
number_of-put_flush xs ys zs bits value word after e four low sum =
    let size : 256 ^ length zs ≡ 256 ^ length xs * 2 ^ 32 = ap (λ (l : List ℕ). 256 ^ length l) e ∙ ap (λ (k : ℕ). 256 ^ k) (length-append xs ys ∙ ap (λ (k : ℕ). length xs + k) four) ∙ pow-add 256 (length xs) 4 in
    let flushed = number_of-flush xs ys after low in
    let put = number_of-put (number_of xs) (256 ^ length xs) (2 ^ (8 * length xs + bits)) bits value word after sum (pow-places (length xs) bits) in
    rw (size, e) (flushed ∙ put)

-- the range from a place on
pub take-rest : (k : ℕ) (xs : List ℕ) → take (length xs - k) (drop k xs) ≡ drop k xs
take-rest k xs = take_all (length xs - k) (drop k xs) (omega (arith, length-drop k xs))

-- the bytes of a number that goes on behind whole bytes, with its bits counted
pub bytes_of-writer : (xs : List ℕ) (bits word : ℕ) → AllBelow 256 xs
    → bytes_of (byte_count (8 * length xs + bits)) (number_of xs + 256 ^ length xs * word) ≡ xs ++ bytes_of ((bits + 7) / 8) word
bytes_of-writer xs bits word h =
    let e : byte_count (8 * length xs + bits) ≡ length xs + (bits + 7) / 8 = omega arith in
    ap (λ (k : ℕ). bytes_of k (number_of xs + 256 ^ length xs * word)) e ∙ bytes_of-behind ((bits + 7) / 8) xs word h

-- the first bytes of a word
pub take-to_le_bytes_8 : (n x : ℕ) → n ≤ 8 → take n (to_le_bytes w64 x) ≡ bytes_of n x
take-to_le_bytes_8 n x h =
    let one : x / 256 ^ 0 ≡ x = omega arith in
    take-bytes_low_first 0 8 n x h ∙ bytes_low_first-bytes_of 0 n x ∙ ap (λ (k : ℕ). bytes_of n k) one

pub AllBelow-append : (n : ℕ) (xs ys : List ℕ) → AllBelow n xs → AllBelow n ys → AllBelow n (xs ++ ys)
AllBelow-append n [] ys h k = k
AllBelow-append n (x ∷ xs) ys h k = (h.0, AllBelow-append n xs ys h.1 k)

pub AllBelow-bytes_of : (n x : ℕ) → AllBelow 256 (bytes_of n x)
AllBelow-bytes_of zero x = tt
AllBelow-bytes_of (suc n) x = (omega arith, AllBelow-bytes_of n (x / 256))

pub AllBelow-to_le_bytes_4 : (x : ℕ) → AllBelow 256 (to_le_bytes w32 x)
AllBelow-to_le_bytes_4 x = subst (λ (l : List ℕ). AllBelow 256 l) (sym (bytes_low_first-bytes_of 0 4 x)) (AllBelow-bytes_of 4 (x / 256 ^ 0))

pub AllBelow-zeros : AllBelow 256 (0 ∷ 0 ∷ 0 ∷ 0 ∷ 0 ∷ 0 ∷ 0 ∷ 0 ∷ [])
AllBelow-zeros = omega arith

-- one more code
pub joined-take : (w : ℕ) (codes : List ℕ) (i : ℕ) → i < length codes
    → joined w (take (i + 1) codes) ≡ joined w (take i codes) + 2 ^ (i * w) * get_or codes i 0
joined-take w codes i h =
    let more : take (i + 1) codes ≡ take i codes ++ get_or codes i 0 ∷ [] = ap (λ (k : ℕ). take k codes) (add-one i) ∙ take-suc codes i 0 h in
    let size : length (take i codes) ≡ i = length-take-le i codes (omega arith) in
    ap (λ l. joined w l) more ∙ joined-append w (take i codes) (get_or codes i 0) ∙ ap (λ (k : ℕ). joined w (take i codes) + 2 ^ (k * w) * get_or codes i 0) size

-- packed bytes with eight zero bytes behind
pub padded-number : (w : ℕ) (codes bytes : List ℕ) → AllBelow (2 ^ w) codes → bytes ≡ packed_bytes w codes ++ (0 ∷ 0 ∷ 0 ∷ 0 ∷ 0 ∷ 0 ∷ 0 ∷ 0 ∷ []) → number_of bytes ≡ joined w codes
padded-number w codes bytes h e = ap (λ l. number_of l) e ∙ number_of-zeros (packed_bytes w codes) ∙ number_of-packed_bytes w codes h

pub padded-length : (w : ℕ) (codes bytes : List ℕ) → bytes ≡ packed_bytes w codes ++ (0 ∷ 0 ∷ 0 ∷ 0 ∷ 0 ∷ 0 ∷ 0 ∷ 0 ∷ []) → length bytes ≡ byte_count (length codes * w) + 8
padded-length w codes bytes e =
    ap (λ l. length l) e ∙ length-append (packed_bytes w codes) (0 ∷ 0 ∷ 0 ∷ 0 ∷ 0 ∷ 0 ∷ 0 ∷ 0 ∷ [])
    ∙ ap (λ (k : ℕ). k + 8) (length-bytes_of (byte_count (length codes * w)) (joined w codes))

pub padded-below : (w : ℕ) (codes bytes : List ℕ) → bytes ≡ packed_bytes w codes ++ (0 ∷ 0 ∷ 0 ∷ 0 ∷ 0 ∷ 0 ∷ 0 ∷ 0 ∷ []) → AllBelow 256 bytes
padded-below w codes bytes e =
    subst (λ (l : List ℕ). AllBelow 256 l) (sym e) (AllBelow-append 256 (packed_bytes w codes) (0 ∷ 0 ∷ 0 ∷ 0 ∷ 0 ∷ 0 ∷ 0 ∷ 0 ∷ []) (AllBelow-bytes_of (byte_count (length codes * w)) (joined w codes)) AllBelow-zeros)

-- the highest byte
pub number_of-take : (k : ℕ) (xs : List ℕ) → k < length xs → number_of (take (k + 1) xs) ≡ number_of (take k xs) + 256 ^ k * get_or xs k 0
number_of-take k xs h =
    let more : take (k + 1) xs ≡ take k xs ++ get_or xs k 0 ∷ [] = ap (λ (n : ℕ). take n xs) (add-one k) ∙ take-suc xs k 0 h in
    let size : length (take k xs) ≡ k = length-take-le k xs (omega arith) in
    ap (λ l. number_of l) more ∙ number_of-append (take k xs) (get_or xs k 0 ∷ [])
    ∙ ap (λ (n : ℕ). number_of (take k xs) + 256 ^ n * (get_or xs k 0 + 256 * 0)) size ∙ omega arith

-- the bytes that spell codes, read again
pub number_of-front : (w : ℕ) (codes rest bytes : List ℕ) → AllBelow (2 ^ w) codes → bytes ≡ packed_bytes w codes ++ rest
    → (byte_count (length codes * w) ≤ length bytes) × (number_of (take (byte_count (length codes * w)) bytes) ≡ joined w codes)
number_of-front w codes rest bytes h e =
    let size : length (packed_bytes w codes) ≡ byte_count (length codes * w) = length-bytes_of (byte_count (length codes * w)) (joined w codes) in
    let front : take (byte_count (length codes * w)) bytes ≡ packed_bytes w codes =
    ap (λ (k : ℕ). take k bytes) (sym size) ∙ ap (λ (l : List ℕ). take (length (packed_bytes w codes)) l) e ∙ take-append_seam (packed_bytes w codes) rest in
    (omega (arith, ap (λ l. length l) e, length-append (packed_bytes w codes) rest, size), ap (λ l. number_of l) front ∙ number_of-packed_bytes w codes h)

pub AllBelow-take : (n k : ℕ) (xs : List ℕ) → AllBelow n xs → AllBelow n (take k xs)
AllBelow-take n zero xs h = tt
AllBelow-take n (suc k) [] h = tt
AllBelow-take n (suc k) (x ∷ xs) h = (h.0, AllBelow-take n k xs h.1)

pub number_of-take_below : (k : ℕ) (xs : List ℕ) → AllBelow 256 xs → k ≤ length xs → number_of (take k xs) < 256 ^ k
number_of-take_below k xs h le =
    subst (λ (n : ℕ). number_of (take k xs) < 256 ^ n) (length-take-le k xs le) (number_of-below (take k xs) (AllBelow-take 256 k xs h))

-- whole bytes have no unused bits
pub unused-none : (bits : ℕ) (xs : List ℕ) → AllBelow 256 xs → byte_count bits ≤ length xs → bits % 8 ≡ 0 → number_of (take (byte_count bits) xs) < 2 ^ bits
unused-none bits xs h le e =
    let count : 8 * byte_count bits ≡ bits = omega arith in
    subst (λ (n : ℕ). number_of (take (byte_count bits) xs) < n) (pow256 (byte_count bits) ∙ ap (λ (n : ℕ). 2 ^ n) count) (number_of-take_below (byte_count bits) xs h le)

top_digit : (a p b u : ℕ) → a + p * b < p * u → b < u
top_digit a p b u h = elim (cases_lt b u) [ inl lt ↦ lt | inr le ↦ absurd (let m : p * u ≤ p * b = mul-le p u p b (omega arith) le in omega arith) ]

pub div-zero : (b m : ℕ) → 0 < m → b / m ≡ 0 → b < m
div-zero b m pos e = let z : m * (b / m) ≡ m * 0 = ap (λ (k : ℕ). m * k) e in omega (arith, z, whole b m, mod_below b m pos)

zero-div_below : (b m : ℕ) → b < m → b / m ≡ 0
zero-div_below b m h = div-eq_of_lt h

number_of-last : (bits : ℕ) (xs : List ℕ) → byte_count bits ≤ length xs → 0 < bits % 8
    → (number_of (take (byte_count bits) xs) ≡ number_of (take (bits / 8) xs) + 256 ^ (bits / 8) * get_or xs (bits / 8) 0) × (2 ^ bits ≡ 256 ^ (bits / 8) * 2 ^ (bits % 8))
number_of-last bits xs le used =
    let count : byte_count bits ≡ bits / 8 + 1 = omega arith in
    let parts : bits ≡ 8 * (bits / 8) + bits % 8 = omega arith in
    (ap (λ (k : ℕ). number_of (take k xs)) count ∙ number_of-take (bits / 8) xs (omega arith), ap (λ (k : ℕ). 2 ^ k) parts ∙ pow-places (bits / 8) (bits % 8))

-- the unused bits of the last byte
pub unused-zero : (bits : ℕ) (xs : List ℕ) → AllBelow 256 xs → byte_count bits ≤ length xs → 0 < bits % 8
    → get_or xs (bits / 8) 0 / 2 ^ (bits % 8) ≡ 0 → number_of (take (byte_count bits) xs) < 2 ^ bits
unused-zero bits xs h le used e =
    let last = number_of-last bits xs le used in
    rw (last.0, last.1) (below_product (number_of (take (bits / 8) xs)) (get_or xs (bits / 8) 0) (256 ^ (bits / 8)) (2 ^ (bits % 8)) (number_of-take_below (bits / 8) xs h (omega arith)) (div-zero (get_or xs (bits / 8) 0) (2 ^ (bits % 8)) (pow_pos (bits % 8)) e))

pub zero-unused : (bits : ℕ) (xs : List ℕ) → byte_count bits ≤ length xs → 0 < bits % 8
    → number_of (take (byte_count bits) xs) < 2 ^ bits → get_or xs (bits / 8) 0 / 2 ^ (bits % 8) ≡ 0
zero-unused bits xs le used below =
    let last = number_of-last bits xs le used in
    let parts : number_of (take (bits / 8) xs) + 256 ^ (bits / 8) * get_or xs (bits / 8) 0 < 256 ^ (bits / 8) * 2 ^ (bits % 8) = omega (arith, last.0, last.1, below) in zero-div_below (get_or xs (bits / 8) 0) (2 ^ (bits % 8)) (top_digit (number_of (take (bits / 8) xs)) (256 ^ (bits / 8)) (get_or xs (bits / 8) 0) (2 ^ (bits % 8)) parts)

-- the first bytes of a text with eight zero bytes behind
pub kept-length : (k : ℕ) (xs ys : List ℕ) → k ≤ length xs → ys ≡ take k xs ++ (0 ∷ 0 ∷ 0 ∷ 0 ∷ 0 ∷ 0 ∷ 0 ∷ 0 ∷ []) → length ys ≡ k + 8
kept-length k xs ys le e =
    ap (λ (l : List ℕ). length l) e ∙ length-append (take k xs) (0 ∷ 0 ∷ 0 ∷ 0 ∷ 0 ∷ 0 ∷ 0 ∷ 0 ∷ []) ∙ ap (λ (n : ℕ). n + 8) (length-take-le k xs le)

pub kept-number : (k : ℕ) (xs ys : List ℕ) → ys ≡ take k xs ++ (0 ∷ 0 ∷ 0 ∷ 0 ∷ 0 ∷ 0 ∷ 0 ∷ 0 ∷ []) → number_of ys ≡ number_of (take k xs)
kept-number k xs ys e = ap (λ (l : List ℕ). number_of l) e ∙ number_of-zeros (take k xs)

pub kept-below : (k : ℕ) (xs ys : List ℕ) → AllBelow 256 xs → ys ≡ take k xs ++ (0 ∷ 0 ∷ 0 ∷ 0 ∷ 0 ∷ 0 ∷ 0 ∷ 0 ∷ []) → AllBelow 256 ys
kept-below k xs ys h e =
    subst (λ (l : List ℕ). AllBelow 256 l) (sym e) (AllBelow-append 256 (take k xs) (0 ∷ 0 ∷ 0 ∷ 0 ∷ 0 ∷ 0 ∷ 0 ∷ 0 ∷ []) (AllBelow-take 256 k xs h) AllBelow-zeros)

pub kept-take : (k : ℕ) (xs ys : List ℕ) → k ≤ length xs → ys ≡ take k xs ++ (0 ∷ 0 ∷ 0 ∷ 0 ∷ 0 ∷ 0 ∷ 0 ∷ 0 ∷ []) → take k ys ≡ take k xs
kept-take k xs ys le e =
    let size : length (take k xs) ≡ k = length-take-le k xs le in
    ap (λ (l : List ℕ). take k l) e ∙ ap (λ (n : ℕ). take n (take k xs ++ (0 ∷ 0 ∷ 0 ∷ 0 ∷ 0 ∷ 0 ∷ 0 ∷ 0 ∷ []))) (sym size) ∙ take-append_seam (take k xs) (0 ∷ 0 ∷ 0 ∷ 0 ∷ 0 ∷ 0 ∷ 0 ∷ 0 ∷ [])
