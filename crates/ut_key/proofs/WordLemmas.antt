-- Digits and words stand in the order of the numbers that they spell.
use Rattle.std.proofs.Common.{◌≡◌, ℕ, zero, suc, ◌+◌, ◌*◌, ◌/◌, ◌%◌, ◌^◌, ◌<◌, ◌≤◌, sym, ap, refl, ◌∙◌, arith}
use Rattle.std.specs.Int.{w64, to_be_bytes, bytes_high_first, byte_at}
use Rattle.std.specs.Cmp.{ranks, nat_cmp_is}
use Rattle.std.specs.Cmp.Lexicographic.{slice_cmp}
use Rattle.std.specs.Ordering.{nat_cmp, ordering_then, MatchOrdering}
use Rattle.std.specs.declared.cmp.Ordering.{Ordering}
use Rattle.std.specs.declared.cmp.Ordering.TheVariants.{Less, Equal, Greater}
use Rattle.std.proofs.Math.Arith.{mod-mul}
use Rattle.std.proofs.Math.Nat.{mod-lt, pow-suc, mul_comm, mul-le-mul_right}
use Rattle.ut_key.specs.Keys.{key_cmp}

-- the high digit decides, and then the low one
pub digits_cmp : (p c d u v : ℕ) → u < p → v < p → ordering_then (nat_cmp c d) (nat_cmp u v) ≡ nat_cmp (c * p + u) (d * p + v)
digits_cmp p c d u v hu hv = nat_cmp_is (c * p + u) (d * p + v) _ (by (nat_cmp c d) (nat_cmp u v) (ranks c d) (ranks u v))
  where
    above : (m n : ℕ) → m < n → m * p + p ≤ n * p
    above m n h = omega (arith, mul-le-mul_right p (let le : suc m ≤ n = omega arith in le))

    by : (o q : Ordering) → MatchOrdering o (c < d) (c ≡ d) (d < c) → MatchOrdering q (u < v) (u ≡ v) (v < u)
        → MatchOrdering (ordering_then o q) (c * p + u < d * p + v) (c * p + u ≡ d * p + v) (d * p + v < c * p + u)
    by Less q h g = omega (arith, above c d h)
    by Greater q h g = omega (arith, above d c h)
    by Equal Less h g = omega (arith, ap (λ n. n * p) h)
    by Equal Equal h g = omega (arith, ap (λ n. n * p) h)
    by Equal Greater h g = omega (arith, ap (λ n. n * p) h)

byte_at_is : (k n : ℕ) → byte_at k n ≡ n / 256 ^ k % 256
byte_at_is zero n = omega arith
byte_at_is (suc k) n = refl

power_some : (k : ℕ) → 0 < 256 ^ k
power_some zero = omega arith
power_some (suc k) = omega (arith, pow-suc 256 k, power_some k)

-- the lowest k + 1 bytes are one byte and the lowest k
split_byte : (k n : ℕ) → n % 256 ^ suc k ≡ (n / 256 ^ k % 256) * 256 ^ k + n % 256 ^ k
split_byte k n = ap (λ m. n % m) (pow-suc 256 k ∙ mul_comm (256 ^ k) 256) ∙ mod-mul n (let some : zero < 256 = omega arith in some) (power_some k)

-- bytes with the highest first stand in the order of the numbers
bytes_cmp : (k a b : ℕ) → slice_cmp nat_cmp (bytes_high_first k a) (bytes_high_first k b) ≡ nat_cmp (a % 256 ^ k) (b % 256 ^ k)
bytes_cmp zero a b = nat_cmp_is (a % 1) (b % 1) Equal (omega arith)
bytes_cmp (suc k) a b =
    ap (ordering_then (nat_cmp (byte_at k a) (byte_at k b))) (bytes_cmp k a b)
    ∙ (λ i. ordering_then (nat_cmp (byte_at_is k a i) (byte_at_is k b i)) (nat_cmp (a % 256 ^ k) (b % 256 ^ k)))
    ∙ digits_cmp (256 ^ k) (a / 256 ^ k % 256) (b / 256 ^ k % 256) (a % 256 ^ k) (b % 256 ^ k) (mod-lt a (power_some k)) (mod-lt b (power_some k))
    ∙ (λ i. nat_cmp (sym (split_byte k a) i) (sym (split_byte k b) i))

whole : (n : ℕ) → n < 2 ^ 64 → n % 256 ^ 8 ≡ n
whole n h = omega (arith, h)

-- so do words as keys
pub words_cmp : (a b : ℕ) → a < 2 ^ 64 → b < 2 ^ 64 → key_cmp (to_be_bytes w64 a) (to_be_bytes w64 b) ≡ nat_cmp a b
words_cmp a b ha hb = bytes_cmp 8 a b ∙ (λ i. nat_cmp (whole a ha i) (whole b hb i))
