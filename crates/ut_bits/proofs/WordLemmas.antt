-- Laws on numbers of 32 bits as four bytes.
use Rattle.std.proofs.Common.{◌≡◌, ℕ, zero, suc, ◌+◌, ◌*◌, ◌/◌, ◌%◌, ◌^◌, ◌<◌, ◌≤◌, List, [], ◌∷◌, ◌++◌, length, take, drop, refl, sym, ◌∙◌, ap, arith}
use Rattle.std.proofs.lemmas.List.{length-take-le}
use Rattle.std.proofs.Math.Seq.{take-append_seam}
use Rattle.std.proofs.lemmas.Nat.{or_shifted, shl_whole}
use lib.Bits.{bit_or}
use Rattle.std.specs.Int.{to_le_bytes, w32, w64}
use Rattle.byteorder.specs.Endian.{little_from}
use Rattle.ut_bits.specs.Bits.{AllBelow, bytes_of, number_of}
use Rattle.ut_bits.specs.Words.{word_bytes, word_in}
use Rattle.ut_bits.proofs.BitLemmas.{length-bytes_of, number_of-bytes_of, bytes_of-number_of, AllBelow-take, AllBelow-bytes_of, bytes_low_first-bytes_of, little_from-mod, bytes_of-behind, number_of-append, number_of-take_below, low_field}

pub length-word_bytes : (x : ℕ) → length (word_bytes x) ≡ 4
unfolding word_bytes
length-word_bytes x = length-bytes_of 4 x

pub AllBelow-word_bytes : (x : ℕ) → AllBelow 256 (word_bytes x)
unfolding word_bytes
AllBelow-word_bytes x = AllBelow-bytes_of 4 x

take-front : (n : ℕ) (xs ys : List ℕ) → length xs ≡ n → take n (xs ++ ys) ≡ xs
take-front n xs ys e = ap (λ (k : ℕ). take k (xs ++ ys)) (sym e) ∙ take-append_seam xs ys

drop-front : (n : ℕ) (xs ys : List ℕ) → length xs ≡ n → drop n (xs ++ ys) ≡ ys
drop-front zero [] ys e = refl
drop-front zero (x ∷ xs) ys e = absurd (omega arith)
drop-front (suc n) [] ys e = absurd (omega arith)
drop-front (suc n) (x ∷ xs) ys e = drop-front n xs ys (omega arith)

spelled : (x : ℕ) (xs : List ℕ) → x < 2 ^ 32 → xs ≡ bytes_of 4 x → number_of xs ≡ x
spelled x xs h e = ap (λ (l : List ℕ). number_of l) e ∙ number_of-bytes_of 4 x h

-- a word that begins bytes is read from them
pub word_in-word_bytes : (x : ℕ) (rest : List ℕ) → x < 2 ^ 32 → word_in (word_bytes x ++ rest) ≡ x
unfolding word_in
word_in-word_bytes x rest h =
    ap (λ (l : List ℕ). number_of l) (take-front 4 (word_bytes x) rest (length-word_bytes x)) ∙ spelled x (word_bytes x) h (unfold word_bytes in refl)

pub drop-word_bytes : (x : ℕ) (rest : List ℕ) → drop 4 (word_bytes x ++ rest) ≡ rest
drop-word_bytes x rest = drop-front 4 (word_bytes x) rest (length-word_bytes x)

-- the bytes of the word that is read
pub word_bytes-word_in : (bytes : List ℕ) → AllBelow 256 bytes → 4 ≤ length bytes → word_bytes (word_in bytes) ≡ take 4 bytes
unfolding word_bytes word_in
word_bytes-word_in bytes h le = respelled (take 4 bytes) 4 (length-take-le 4 bytes le) (AllBelow-take 256 4 bytes h)
  where
    respelled : (xs : List ℕ) (n : ℕ) → length xs ≡ n → AllBelow 256 xs → bytes_of n (number_of xs) ≡ xs
    respelled xs n e h = ap (λ (k : ℕ). bytes_of k (number_of xs)) (sym e) ∙ bytes_of-number_of xs h

-- the words of std and of byteorder
pub to_le_bytes-word : (x : ℕ) → to_le_bytes w32 x ≡ word_bytes x
unfolding word_bytes
to_le_bytes-word x = let one : x / 256 ^ 0 ≡ x = omega arith in bytes_low_first-bytes_of 0 4 x ∙ ap (λ (k : ℕ). bytes_of 4 k) one

front-number : (n : ℕ) (xs : List ℕ) → AllBelow 256 xs → n ≤ length xs → number_of xs % 256 ^ n ≡ number_of (take n xs)
front-number n xs h le =
    sym (little_from-mod n xs h le) ∙ ap (λ (k : ℕ). k) (again n xs h le)
  where
    again : (n : ℕ) (xs : List ℕ) → AllBelow 256 xs → n ≤ length xs → little_from 0 n xs ≡ number_of (take n xs)
    again n xs h le = little_from-mod n xs h le ∙ sym (reduced n xs h le)
      where
        split : (xs : List ℕ) (n : ℕ) → take n xs ++ drop n xs ≡ xs
        split [] zero = refl
        split [] (suc n) = refl
        split (x ∷ xs) zero = refl
        split (x ∷ xs) (suc n) = ap (λ (l : List ℕ). x ∷ l) (split xs n)

        reduced : (n : ℕ) (xs : List ℕ) → AllBelow 256 xs → n ≤ length xs → number_of (take n xs) ≡ number_of xs % 256 ^ n
        reduced n xs h le =
            let size : length (take n xs) ≡ n = length-take-le n xs le in
            let whole : number_of xs ≡ number_of (take n xs) + 256 ^ n * number_of (drop n xs) =
            ap (λ (l : List ℕ). number_of l) (sym (split xs n)) ∙ number_of-append (take n xs) (drop n xs) ∙ ap (λ (k : ℕ). number_of (take n xs) + 256 ^ k * number_of (drop n xs)) size in
            sym (ap (λ (k : ℕ). k % 256 ^ n) whole ∙ low_field (number_of (take n xs)) (256 ^ n) (number_of (drop n xs)) (number_of-take_below n xs h le))

pub little_from-word : (bytes : List ℕ) → AllBelow 256 bytes → 4 ≤ length bytes → little_from 0 4 bytes ≡ word_in bytes
unfolding word_in
little_from-word bytes h le = little_from-mod 4 bytes h le ∙ front-number 4 bytes h le

-- two words as one number of 64 bits
pub to_le_bytes-words : (low high : ℕ) → low < 2 ^ 32 → high < 2 ^ 32 → to_le_bytes w64 (bit_or (high * 2 ^ 32 % 2 ^ 64) low) ≡ word_bytes low ++ word_bytes high
unfolding word_bytes
to_le_bytes-words low high h k =
    let shift : high * 2 ^ 32 % 2 ^ 64 ≡ high * 2 ^ 32 = shl_whole high 32 32 64 k (omega arith) in
    let sum : bit_or (high * 2 ^ 32 % 2 ^ 64) low ≡ low + 256 ^ 4 * high = ap (λ (x : ℕ). bit_or x low) shift ∙ or_shifted high 32 low h ∙ omega arith in
    let one : (low + 256 ^ 4 * high) / 256 ^ 0 ≡ low + 256 ^ 4 * high = omega arith in
    ap (λ (x : ℕ). to_le_bytes w64 x) sum ∙ bytes_low_first-bytes_of 0 8 (low + 256 ^ 4 * high) ∙ ap (λ (x : ℕ). bytes_of 8 x) one
    ∙ joined 4 4 8 low high (omega arith) h
  where
    joined : (m n s low high : ℕ) → m + n ≡ s → low < 256 ^ m → bytes_of s (low + 256 ^ m * high) ≡ bytes_of m low ++ bytes_of n high
    joined m n s low high e h =
        let size : length (bytes_of m low) ≡ m = length-bytes_of m low in
        let number : number_of (bytes_of m low) ≡ low = number_of-bytes_of m low h in
        ap (λ (k : ℕ). bytes_of k (low + 256 ^ m * high)) (sym e ∙ ap (λ (k : ℕ). k + n) (sym size))
        ∙ ap (λ (k : ℕ). bytes_of (length (bytes_of m low) + n) (k + 256 ^ m * high)) (sym number)
        ∙ ap (λ (k : ℕ). bytes_of (length (bytes_of m low) + n) (number_of (bytes_of m low) + 256 ^ k * high)) (sym size)
        ∙ bytes_of-behind n (bytes_of m low) high (AllBelow-bytes_of m low)
