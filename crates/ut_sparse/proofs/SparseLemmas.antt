-- Laws on the sparse form.
use Rattle.std.proofs.Common.{◌≡◌, ℕ, zero, suc, ◌+◌, ◌-◌, ◌*◌, ◌/◌, ◌%◌, ◌^◌, ◌<◌, ◌≤◌, eqb, Bool, true, false, cond, inl, inr, if◌then◌else◌, List, [], ◌∷◌, ◌++◌, length, take, drop, get_or, refl, sym, ◌∙◌, ap, subst, arith, add-one, length-append, append_assoc}
use Rattle.std.proofs.Math.Seq.{take-add, take-suc, get_or-append_seam}
use Rattle.std.proofs.lemmas.List.{length-take-le, get_or_append_left}
use Rattle.std.proofs.lemmas.List.Sums.{sum_by-append}
use Rattle.std.proofs.lemmas.Bool.{cases_lt, ne_eqb}
use Rattle.std.proofs.lemmas.Nat.{and_mask, one_shl, pow_pos}
use Rattle.std.proofs.Math.Nat.{pow-suc, pow-le-pow_right, mul_comm, div-div-eq-div-mul, zero-div, zero-mod, mod-one}
use Rattle.std.proofs.Math.Pow.{mod-mod-pow}
use Rattle.std.specs.Int.RustNames.{count_ones}
use lib.Bits.{bit_and}
use lib.Count.{ones_step}
use Rattle.std.proofs.lemmas.Bool.Decides.{eqb_tells}
use Rattle.ut_bits.specs.Bits.{AllBelow, joined, packed_bytes, byte_count}
use Rattle.ut_bits.specs.Words.{word_bytes, word_in}
use Rattle.ut_bits.proofs.BitLemmas.{AllBelow-append, AllBelow-drop, low_field, high_fields, mod_in_front, length-bytes_of}
use Rattle.ut_bits.proofs.ListLemmas.{packed_bytes-unique}
use Rattle.ut_bits.proofs.WordLemmas.{length-word_bytes, word_in-word_bytes, drop-word_bytes}
use Rattle.ut_sparse.specs.Frequent.{count_of, most_frequent, IsMostFrequent}
use Rattle.ut_sparse.specs.Sparse.{marks_of, others_of, merged, marked, AreSparse, sparse_bytes}
use Rattle.ut_sparse.proofs.FrequentLemmas.{count_of-none, most_frequent-is, is-most_frequent}

if-true : {X : Type 0} (b : Bool) (x y : X) → b ≡ true → (if b then x else y) ≡ x
if-true b x y e = rw e refl

if-false : {X : Type 0} (b : Bool) (x y : X) → b ≡ false → (if b then x else y) ≡ y
if-false b x y e = rw e refl

itself : (n : ℕ) → eqb n n ≡ true
itself n = elim (eqb_tells n n) [ inl e ↦ e.0 | inr e ↦ absurd (e.1 refl) ]

-- how often a code stands with one more in front
count_of-yes : (d c : ℕ) (cs : List ℕ) → eqb c d ≡ true → count_of d (c ∷ cs) ≡ 1 + count_of d cs
count_of-yes d c cs e = sum_by-append (λ x. cond (eqb x d) 1 0) (c ∷ []) cs ∙ ap (λ (k : ℕ). k + count_of d cs) (rw e refl)

count_of-no : (d c : ℕ) (cs : List ℕ) → eqb c d ≡ false → count_of d (c ∷ cs) ≡ count_of d cs
count_of-no d c cs e =
    let one : count_of d (c ∷ []) ≡ 0 = rw e refl in
    sum_by-append (λ x. cond (eqb x d) 1 0) (c ∷ []) cs ∙ ap (λ (k : ℕ). k + count_of d cs) one ∙ omega arith

pub AllBelow-weaker : (n m : ℕ) (xs : List ℕ) → AllBelow n xs → n ≤ m → AllBelow m xs
AllBelow-weaker n m [] h le = tt
AllBelow-weaker n m (x ∷ xs) h le = (omega (arith, h.0), AllBelow-weaker n m xs h.1 le)

-- one more code
pub AllBelow-next : (n m : ℕ) (codes : List ℕ) (i : ℕ) → AllBelow n (take i codes) → i < length codes → n ≤ m → get_or codes i 0 < m → AllBelow m (take (i + 1) codes)
AllBelow-next n m codes i h below le small =
    subst (λ (l : List ℕ). AllBelow m l) (sym (ap (λ (k : ℕ). take k codes) (add-one i) ∙ take-suc codes i 0 below))
    (AllBelow-append m (take i codes) (get_or codes i 0 ∷ []) (AllBelow-weaker n m (take i codes) h le) (small, tt))

-- a row with the code that is left out
merged-left : (left m : ℕ) (ms os : List ℕ) → eqb m 0 ≡ true → merged left (m ∷ ms) os ≡ left ∷ merged left ms os
merged-left left m ms os e = if-true (eqb m 0) _ _ e

-- a row with another code
merged-other : (left m : ℕ) (ms os : List ℕ) → eqb m 0 ≡ false → merged left (m ∷ ms) os ≡ get_or os 0 0 ∷ merged left ms (drop 1 os)
merged-other left m ms os e = if-false (eqb m 0) _ _ e

pub length-merged : (left : ℕ) (ms os : List ℕ) → length (merged left ms os) ≡ length ms
length-merged left [] os = refl
length-merged left (m ∷ ms) os =
    elim (eqb_tells m 0) [
      | inl e ↦ ap (λ (l : List ℕ). length l) (merged-left left m ms os e.0) ∙ ap suc (length-merged left ms os)
      | inr e ↦ ap (λ (l : List ℕ). length l) (merged-other left m ms os e.0) ∙ ap suc (length-merged left ms (drop 1 os))
    ]

get_or-drop-one : (os : List ℕ) (k : ℕ) → get_or (drop 1 os) k 0 ≡ get_or os (1 + k) 0
get_or-drop-one [] k = refl
get_or-drop-one (o ∷ os) k = let e : 1 + k ≡ suc k = omega arith in rw e refl

pub get_or-merged_left : (left : ℕ) (ms os : List ℕ) (i : ℕ) → i < length ms → get_or ms i 0 ≡ 0 → get_or (merged left ms os) i 0 ≡ left
get_or-merged_left left [] os i h e = absurd (omega arith)
get_or-merged_left left (m ∷ ms) os zero h e = ap (λ (l : List ℕ). get_or l 0 0) (merged-left left m ms os (ap (λ (n : ℕ). eqb n 0) e))
get_or-merged_left left (m ∷ ms) os (suc i) h e =
    elim (eqb_tells m 0) [
      | inl k ↦ ap (λ (l : List ℕ). get_or l (suc i) 0) (merged-left left m ms os k.0) ∙ get_or-merged_left left ms os i (omega arith) e
      | inr k ↦ ap (λ (l : List ℕ). get_or l (suc i) 0) (merged-other left m ms os k.0) ∙ get_or-merged_left left ms (drop 1 os) i (omega arith) e
    ]

pub get_or-merged_other : (left : ℕ) (ms os : List ℕ) (i : ℕ) → AllBelow 2 ms → i < length ms → (get_or ms i 0 ≡ 0 → ⊥) → get_or (merged left ms os) i 0 ≡ get_or os (marked (take i ms)) 0
get_or-merged_other left [] os i b h e = absurd (omega arith)
get_or-merged_other left (m ∷ ms) os zero b h e = ap (λ (l : List ℕ). get_or l 0 0) (merged-other left m ms os (ne_eqb m 0 e))
get_or-merged_other left (m ∷ ms) os (suc i) b h e =
    elim (eqb_tells m 0) [
      | inl k ↦
          ap (λ (l : List ℕ). get_or l (suc i) 0) (merged-left left m ms os k.0) ∙ get_or-merged_other left ms os i b.1 (omega arith) e
          ∙ ap (λ (n : ℕ). get_or os n 0) (omega (arith, k.1))
      | inr k ↦
          ap (λ (l : List ℕ). get_or l (suc i) 0) (merged-other left m ms os k.0) ∙ get_or-merged_other left ms (drop 1 os) i b.1 (omega arith) e
          ∙ get_or-drop-one os (marked (take i ms)) ∙ ap (λ (n : ℕ). get_or os n 0) (omega (arith, k.1, b.0))
    ]

pub marked-append : (xs ys : List ℕ) → marked (xs ++ ys) ≡ marked xs + marked ys
marked-append [] ys = omega arith
marked-append (x ∷ xs) ys = omega (arith, marked-append xs ys)

pub take-next : (xs : List ℕ) (i : ℕ) → i < length xs → take (i + 1) xs ≡ take i xs ++ get_or xs i 0 ∷ []
take-next xs i h = ap (λ (k : ℕ). take k xs) (add-one i) ∙ take-suc xs i 0 h

pub marked-next : (ms : List ℕ) (i : ℕ) → i < length ms → marked (take (i + 1) ms) ≡ marked (take i ms) + get_or ms i 0
marked-next ms i h = ap (λ l. marked l) (take-next ms i h) ∙ marked-append (take i ms) (get_or ms i 0 ∷ []) ∙ omega arith

pub marked-parts : (m n k : ℕ) (ms : List ℕ) → m + n ≡ k → marked (take k ms) ≡ marked (take m ms) + marked (take n (drop m ms))
marked-parts m n k ms e = ap (λ (j : ℕ). marked (take j ms)) (sym e) ∙ ap (λ l. marked l) (take-add m n ms) ∙ marked-append (take m ms) (take n (drop m ms))

pub marked-le : (ms : List ℕ) → AllBelow 2 ms → marked ms ≤ length ms
marked-le [] b = omega arith
marked-le (m ∷ ms) b = omega (arith, b.0, marked-le ms b.1)

pub marked-take-le : (ms : List ℕ) (i : ℕ) → marked (take i ms) ≤ marked ms
marked-take-le ms zero = omega arith
marked-take-le [] (suc i) = omega arith
marked-take-le (m ∷ ms) (suc i) = omega (arith, marked-take-le ms i)

-- a row that is marked has a place among the others
pub rank-within : (ms : List ℕ) (i : ℕ) → i < length ms → (get_or ms i 0 ≡ 0 → ⊥) → marked (take i ms) < marked ms
rank-within ms i h e = omega (arith, marked-next ms i h, marked-take-le ms (i + 1), e)

-- the number that bits are, from a place on, and of the first of them
pub joined-drop : (m : ℕ) (ms : List ℕ) → AllBelow 2 ms → joined 1 ms / 2 ^ m ≡ joined 1 (drop m ms)
joined-drop zero ms b = omega arith
joined-drop (suc m) [] b = zero-div (2 ^ suc m)
joined-drop (suc m) (x ∷ ms) b =
    let e : 2 ^ suc m ≡ 2 * 2 ^ m = pow-suc 2 m ∙ mul_comm (2 ^ m) 2 in
    ap (λ (k : ℕ). (x + 2 * joined 1 ms) / k) e ∙ sym (div-div-eq-div-mul (x + 2 * joined 1 ms) 2 (2 ^ m))
    ∙ ap (λ (k : ℕ). k / 2 ^ m) (high_fields x 2 (joined 1 ms) b.0) ∙ joined-drop m ms b.1

pub joined-take : (n : ℕ) (ms : List ℕ) → AllBelow 2 ms → joined 1 ms % 2 ^ n ≡ joined 1 (take n ms)
joined-take zero ms b = mod-one (joined 1 ms)
joined-take (suc n) [] b = zero-mod (2 ^ suc n)
joined-take (suc n) (x ∷ ms) b =
    let e : 2 ^ suc n ≡ 2 * 2 ^ n = pow-suc 2 n ∙ mul_comm (2 ^ n) 2 in
    ap (λ (k : ℕ). (x + 2 * joined 1 ms) % k) e ∙ mod_in_front x (joined 1 ms) 2 (2 ^ n) b.0 (pow_pos n) ∙ ap (λ (k : ℕ). x + 2 * k) (joined-take n ms b.1)

AllBelow-take : (n : ℕ) (xs : List ℕ) → AllBelow 2 xs → AllBelow 2 (take n xs)
AllBelow-take zero xs h = tt
AllBelow-take (suc k) [] h = tt
AllBelow-take (suc k) (x ∷ xs) h = (h.0, AllBelow-take k xs h.1)

count_ones-joined : (ms : List ℕ) → AllBelow 2 ms → count_ones (joined 1 ms) ≡ marked ms
count_ones-joined [] b = unfold count_ones in refl
count_ones-joined (m ∷ ms) b =
    ones_step (m + 2 * joined 1 ms) ∙ ap (λ (k : ℕ). k + count_ones ((m + 2 * joined 1 ms) / 2)) (low_field m 2 (joined 1 ms) b.0)
    ∙ ap (λ (k : ℕ). m + count_ones k) (high_fields m 2 (joined 1 ms) b.0) ∙ ap (λ (k : ℕ). m + k) (count_ones-joined ms b.1)

-- the rows that are marked among the first of a word
pub count-word : (width place n word : ℕ) (ms : List ℕ) → width ≡ 1 → AllBelow 2 ms → n ≤ 64 → word ≡ joined width ms / 2 ^ place % 2 ^ 64 → count_ones (word % 2 ^ n) ≡ marked (take n (drop place ms))
count-word width place n word ms one b small e =
    let bits = AllBelow-drop 2 place ms b in
    let whole : word ≡ joined 1 (drop place ms) % 2 ^ 64 = e ∙ ap (λ (w : ℕ). joined w ms / 2 ^ place % 2 ^ 64) one ∙ ap (λ (x : ℕ). x % 2 ^ 64) (joined-drop place ms b) in
    let gap : 64 ≡ 64 - n + n = omega arith in
    let part : word % 2 ^ n ≡ joined 1 (drop place ms) % 2 ^ n =
    ap (λ (x : ℕ). x % 2 ^ n) whole ∙ ap (λ (k : ℕ). joined 1 (drop place ms) % 2 ^ k % 2 ^ n) gap ∙ mod-mod-pow (joined 1 (drop place ms)) (64 - n) n in
    ap (λ (x : ℕ). count_ones x) (part ∙ joined-take n (drop place ms) bits) ∙ count_ones-joined (take n (drop place ms)) (AllBelow-take n (drop place ms) bits)

-- the first rows' marks of a word, by a mask
pub count-masked : (width place n word : ℕ) (ms : List ℕ) → width ≡ 1 → AllBelow 2 ms → n < 64 → word ≡ joined width ms / 2 ^ place % 2 ^ 64 → count_ones (bit_and word (1 * 2 ^ n % 2 ^ 64 - 1)) ≡ marked (take n (drop place ms))
count-masked width place n word ms one b small e =
    ap (λ (k : ℕ). count_ones (bit_and word (k - 1))) (one_shl n 64 small) ∙ ap (λ (x : ℕ). count_ones x) (and_mask word n) ∙ count-word width place n word ms one b (omega arith) e

-- one more code
pub marks_of-append : (left : ℕ) (xs : List ℕ) (c : ℕ) → marks_of left (xs ++ c ∷ []) ≡ marks_of left xs ++ (if eqb c left then 0 else 1) ∷ []
marks_of-append left [] c = refl
marks_of-append left (x ∷ xs) c = ap (λ (l : List ℕ). (if eqb x left then 0 else 1) ∷ l) (marks_of-append left xs c)

pub others_of-same : (left : ℕ) (xs : List ℕ) (c : ℕ) → eqb c left ≡ true → others_of left (xs ++ c ∷ []) ≡ others_of left xs
others_of-same left [] c e = if-true (eqb c left) _ _ e
others_of-same left (x ∷ xs) c e =
    elim (eqb_tells x left) [ inl k ↦ rw k.0 (others_of-same left xs c e) | inr k ↦ rw k.0 (ap (λ (l : List ℕ). x ∷ l) (others_of-same left xs c e)) ]

pub others_of-other : (left : ℕ) (xs : List ℕ) (c : ℕ) → eqb c left ≡ false → others_of left (xs ++ c ∷ []) ≡ others_of left xs ++ c ∷ []
others_of-other left [] c e = if-false (eqb c left) _ _ e
others_of-other left (x ∷ xs) c e =
    elim (eqb_tells x left) [ inl k ↦ rw k.0 (others_of-other left xs c e) | inr k ↦ rw k.0 (ap (λ (l : List ℕ). x ∷ l) (others_of-other left xs c e)) ]

pub length-marks_of : (left : ℕ) (codes : List ℕ) → length (marks_of left codes) ≡ length codes
length-marks_of left [] = refl
length-marks_of left (c ∷ cs) = ap suc (length-marks_of left cs)

pub AllBelow-marks_of : (left : ℕ) (codes : List ℕ) → AllBelow 2 (marks_of left codes)
AllBelow-marks_of left [] = tt
AllBelow-marks_of left (c ∷ cs) = elim (eqb_tells c left) [ inl k ↦ rw k.0 (omega arith, AllBelow-marks_of left cs) | inr k ↦ rw k.0 (omega arith, AllBelow-marks_of left cs) ]

pub marked-marks_of : (left : ℕ) (codes : List ℕ) → marked (marks_of left codes) ≡ length (others_of left codes)
marked-marks_of left [] = refl
marked-marks_of left (c ∷ cs) =
    elim (eqb_tells c left) [ inl k ↦ rw k.0 (omega (arith, marked-marks_of left cs)) | inr k ↦ rw k.0 (omega (arith, marked-marks_of left cs)) ]

pub count_of-others : (left : ℕ) (codes : List ℕ) → count_of left (others_of left codes) ≡ 0
count_of-others left [] = refl
count_of-others left (c ∷ cs) =
    elim (eqb_tells c left) [
      | inl k ↦ ap (λ (l : List ℕ). count_of left l) (if-true (eqb c left) (others_of left cs) (c ∷ others_of left cs) k.0) ∙ count_of-others left cs
      | inr k ↦ ap (λ (l : List ℕ). count_of left l) (if-false (eqb c left) (others_of left cs) (c ∷ others_of left cs) k.0) ∙ count_of-no left c (others_of left cs) k.0 ∙ count_of-others left cs
    ]

pub length-others_of : (left : ℕ) (codes : List ℕ) → length (others_of left codes) + count_of left codes ≡ length codes
length-others_of left [] = refl
length-others_of left (c ∷ cs) =
    elim (eqb_tells c left) [
      | inl k ↦ let count = count_of-yes left c cs k.0 in let size = ap (λ (l : List ℕ). length l) (if-true (eqb c left) (others_of left cs) (c ∷ others_of left cs) k.0) in omega (arith, length-others_of left cs, count, size)
      | inr k ↦ let count = count_of-no left c cs k.0 in let size = ap (λ (l : List ℕ). length l) (if-false (eqb c left) (others_of left cs) (c ∷ others_of left cs) k.0) in omega (arith, length-others_of left cs, count, size)
    ]

pub AllBelow-others_of : (limit left : ℕ) (codes : List ℕ) → AllBelow limit codes → AllBelow limit (others_of left codes)
AllBelow-others_of limit left [] h = tt
AllBelow-others_of limit left (c ∷ cs) h =
    elim (eqb_tells c left) [ inl k ↦ rw k.0 (AllBelow-others_of limit left cs h.1) | inr k ↦ rw k.0 (h.0, AllBelow-others_of limit left cs h.1) ]

pub merged-of : (left : ℕ) (codes : List ℕ) → merged left (marks_of left codes) (others_of left codes) ≡ codes
merged-of left [] = refl
merged-of left (c ∷ cs) =
    elim (eqb_tells c left) [
      | inl k ↦ rw k.0 (ap (λ (l : List ℕ). left ∷ l) (merged-of left cs) ∙ ap (λ (n : ℕ). n ∷ cs) (sym k.1))
      | inr k ↦ rw k.0 (ap (λ (l : List ℕ). c ∷ l) (merged-of left cs))
    ]

pub AreSparse-of : (left : ℕ) (codes : List ℕ) → AreSparse left (marks_of left codes) (others_of left codes)
AreSparse-of left codes = record { bits = AllBelow-marks_of left codes; paired = marked-marks_of left codes; differ = count_of-others left codes }

-- the head of a list without a code
differ-head : (left o : ℕ) (os : List ℕ) → count_of left (o ∷ os) ≡ 0 → (eqb o left ≡ false) × (count_of left os ≡ 0)
differ-head left o os h =
    elim (eqb_tells o left) [ inl k ↦ absurd (omega (arith, count_of-yes left o os k.0, h)) | inr k ↦ (k.0, sym (count_of-no left o os k.0) ∙ h) ]

-- marks and others are those of the codes that they stand for
pub marks_of-merged : (left : ℕ) (ms os : List ℕ) → AllBelow 2 ms → marked ms ≡ length os → count_of left os ≡ 0 → (marks_of left (merged left ms os) ≡ ms) × (others_of left (merged left ms os) ≡ os)
marks_of-merged left [] [] b p d = (refl, refl)
marks_of-merged left [] (o ∷ os) b p d = absurd (omega (arith, p))
marks_of-merged left (m ∷ ms) os b p d =
    elim (eqb_tells m 0) [
      | inl k ↦
          let rest = marks_of-merged left ms os b.1 (omega (arith, p, k.1)) d in
          let is = merged-left left m ms os k.0 in (
            ap (λ l. marks_of left l) is ∙ rw (itself left) (ap (λ (l : List ℕ). 0 ∷ l) rest.0 ∙ ap (λ (n : ℕ). n ∷ ms) (sym k.1)),
            ap (λ l. others_of left l) is ∙ rw (itself left) rest.1,
          )
      | inr k ↦ marked-first left m ms os b p d k.0 k.1 (λ os' p' d'. marks_of-merged left ms os' b.1 p' d')
    ]
  where
    marked-first : (left m : ℕ) (ms os : List ℕ) → AllBelow 2 (m ∷ ms) → marked (m ∷ ms) ≡ length os → count_of left os ≡ 0 → eqb m 0 ≡ false → (m ≡ 0 → ⊥)
        → ((os' : List ℕ) → marked ms ≡ length os' → count_of left os' ≡ 0 → (marks_of left (merged left ms os') ≡ ms) × (others_of left (merged left ms os') ≡ os'))
        → (marks_of left (merged left (m ∷ ms) os) ≡ m ∷ ms) × (others_of left (merged left (m ∷ ms) os) ≡ os)
    marked-first left m ms [] b p d k n again = absurd (omega (arith, p, n))
    marked-first left m ms (o ∷ os) b p d k n again =
        let head = differ-head left o os d in
        let one : m ≡ 1 = omega (arith, b.0, n) in
        let rest = again os (omega (arith, p, one)) head.1 in
        let is = merged-other left m ms (o ∷ os) k in (
          ap (λ l. marks_of left l) is ∙ rw head.0 (ap (λ (l : List ℕ). 1 ∷ l) rest.0 ∙ ap (λ (n : ℕ). n ∷ ms) (sym one)),
          ap (λ l. others_of left l) is ∙ rw head.0 (ap (λ (l : List ℕ). o ∷ l) rest.1),
        )

-- how often the code that is left out stands
pub count_of-merged : (left : ℕ) (ms os : List ℕ) → AllBelow 2 ms → marked ms ≡ length os → count_of left (merged left ms os) + marked ms ≡ length ms + count_of left os
count_of-merged left [] [] b p = refl
count_of-merged left [] (o ∷ os) b p = absurd (omega (arith, p))
count_of-merged left (m ∷ ms) os b p =
    elim (eqb_tells m 0) [
      | inl k ↦
          let rest = count_of-merged left ms os b.1 (omega (arith, p, k.1)) in
          let is = ap (λ l. count_of left l) (merged-left left m ms os k.0) in
          let more = count_of-yes left left (merged left ms os) (itself left) in
          omega (arith, is, more, rest, k.1)
      | inr k ↦ counted-first left m ms os b p k.0 k.1 (λ os' p'. count_of-merged left ms os' b.1 p')
    ]
  where
    counted-first : (left m : ℕ) (ms os : List ℕ) → AllBelow 2 (m ∷ ms) → marked (m ∷ ms) ≡ length os → eqb m 0 ≡ false → (m ≡ 0 → ⊥)
        → ((os' : List ℕ) → marked ms ≡ length os' → count_of left (merged left ms os') + marked ms ≡ length ms + count_of left os')
        → count_of left (merged left (m ∷ ms) os) + marked (m ∷ ms) ≡ length (m ∷ ms) + count_of left os
    counted-first left m ms [] b p k n again = absurd (omega (arith, p, n))
    counted-first left m ms (o ∷ os) b p k n again =
        let one : m ≡ 1 = omega (arith, b.0, n) in
        let rest = again os (omega (arith, p, one)) in
        let is = ap (λ l. count_of left l) (merged-other left m ms (o ∷ os) k) in
        elim (eqb_tells o left) [
          | inl e ↦
              let more = count_of-yes left o (merged left ms os) e.0 in
              let some = count_of-yes left o os e.0 in
              omega (arith, is, more, some, rest, one)
          | inr e ↦
              let more = count_of-no left o (merged left ms os) e.0 in
              let some = count_of-no left o os e.0 in
              omega (arith, is, more, some, rest, one)
        ]

-- a code that is most frequent is below a limit of the codes
pub most_frequent-below : (limit : ℕ) (codes : List ℕ) → 0 < limit → AllBelow limit codes → most_frequent codes < limit
most_frequent-below limit codes pos h =
    elim (cases_lt (most_frequent codes) limit) [
      | inl less ↦ less
      | inr more ↦
          let none = count_of-none limit (most_frequent codes) codes h more in
          let here = most_frequent-is codes 0 in
          omega (arith, here.1 (omega (arith, here.0, none)), more, pos)
    ]

pub AllBelow-merged : (limit left : ℕ) (ms os : List ℕ) → AllBelow 2 ms → marked ms ≡ length os → left < limit → AllBelow limit os → AllBelow limit (merged left ms os)
AllBelow-merged limit left [] os b p small h = tt
AllBelow-merged limit left (m ∷ ms) os b p small h =
    elim (eqb_tells m 0) [
      | inl k ↦ subst (λ (l : List ℕ). AllBelow limit l) (sym (merged-left left m ms os k.0)) (small, AllBelow-merged limit left ms os b.1 (omega (arith, p, k.1)) small h)
      | inr k ↦ subst (λ (l : List ℕ). AllBelow limit l) (sym (merged-other left m ms os k.0)) (taken left m ms os b p h k.1 (λ os' p' h'. AllBelow-merged limit left ms os' b.1 p' small h'))
    ]
  where
    taken : (left m : ℕ) (ms os : List ℕ) → AllBelow 2 (m ∷ ms) → marked (m ∷ ms) ≡ length os → AllBelow limit os → (m ≡ 0 → ⊥)
        → ((os' : List ℕ) → marked ms ≡ length os' → AllBelow limit os' → AllBelow limit (merged left ms os')) → AllBelow limit (get_or os 0 0 ∷ merged left ms (drop 1 os))
    taken left m ms [] b p h n again = absurd (omega (arith, p, n))
    taken left m ms (o ∷ os) b p h n again = (h.0, again os (omega (arith, p, b.0, n)) h.1)

-- a list that was read from the bytes that begin with it
pub read-back : (w n : ℕ) (codes others rest bytes : List ℕ) → AllBelow (2 ^ w) codes → AllBelow (2 ^ w) others → length codes ≡ length others → n ≤ length bytes
    → take n bytes ≡ packed_bytes w codes → bytes ≡ packed_bytes w others ++ rest → (codes ≡ others) × (drop n bytes ≡ rest)
read-back w n codes others rest bytes h k e le read is =
    let size : n ≡ byte_count (length codes * w) = sym (length-take-le n bytes le) ∙ ap (λ (l : List ℕ). length l) read ∙ length-bytes_of (byte_count (length codes * w)) (joined w codes) in
    let same = packed_bytes-unique w codes others rest bytes h k e (ap (λ (m : ℕ). take m bytes) (sym size) ∙ read) is in
    let long : n ≡ length (packed_bytes w others) = sym (length-take-le n bytes le) ∙ ap (λ (l : List ℕ). length l) (read ∙ ap (λ (l : List ℕ). packed_bytes w l) same) in
    (same, ap (λ (l : List ℕ). drop n l) is ∙ drop-front n (packed_bytes w others) rest (sym long))
  where
    drop-front : (n : ℕ) (xs ys : List ℕ) → length xs ≡ n → drop n (xs ++ ys) ≡ ys
    drop-front zero [] ys e = refl
    drop-front zero (x ∷ xs) ys e = absurd (omega (arith, e))
    drop-front (suc n) [] ys e = absurd (omega (arith, e))
    drop-front (suc n) (x ∷ xs) ys e = drop-front n xs ys (omega (arith, e))

-- the parts of bytes that begin with the bytes of codes
pub sparse-front : (width : ℕ) (codes rest bytes : List ℕ) → width ≤ 32 → AllBelow (2 ^ width) codes → bytes ≡ sparse_bytes width codes ++ rest
    → (4 ≤ length bytes) × (word_in bytes ≡ most_frequent codes) × (most_frequent codes < 2 ^ width)
    × (drop 4 bytes ≡ packed_bytes 1 (marks_of (most_frequent codes) codes) ++ (packed_bytes width (others_of (most_frequent codes) codes) ++ rest))
sparse-front width codes rest bytes narrow h e =
    let small = most_frequent-below (2 ^ width) codes (pow_pos width) h in
    let fits : 2 ^ width ≤ 2 ^ 32 = power-le width narrow in
    let front : bytes ≡ word_bytes (most_frequent codes) ++ (packed_bytes 1 (marks_of (most_frequent codes) codes) ++ (packed_bytes width (others_of (most_frequent codes) codes) ++ rest)) =
    e ∙ append_assoc (word_bytes (most_frequent codes)) _ rest ∙ ap (λ (l : List ℕ). word_bytes (most_frequent codes) ++ l) (append_assoc (packed_bytes 1 (marks_of (most_frequent codes) codes)) (packed_bytes width (others_of (most_frequent codes) codes)) rest) in (
      omega (arith, ap (λ (l : List ℕ). length l) front, length-append (word_bytes (most_frequent codes)) (packed_bytes 1 (marks_of (most_frequent codes) codes) ++ (packed_bytes width (others_of (most_frequent codes) codes) ++ rest)), length-word_bytes (most_frequent codes)),
      ap (λ (l : List ℕ). word_in l) front ∙ word_in-word_bytes (most_frequent codes) _ (omega (arith, small, fits)),
      small,
      ap (λ (l : List ℕ). drop 4 l) front ∙ drop-word_bytes (most_frequent codes) _,
    )
  where
    power-le : (width : ℕ) → width ≤ 32 → 2 ^ width ≤ 2 ^ 32
    power-le width h = let two : 0 < 2 = omega arith in pow-le-pow_right two h

-- the rows that are marked in a word
pub count-word_all : (width place word : ℕ) (ms : List ℕ) → width ≡ 1 → AllBelow 2 ms → word ≡ joined width ms / 2 ^ place % 2 ^ 64 → count_ones word ≡ marked (take 64 (drop place ms))
count-word_all width place word ms one b e =
    let whole : word ≡ joined 1 (drop place ms) % 2 ^ 64 = e ∙ ap (λ (w : ℕ). joined w ms / 2 ^ place % 2 ^ 64) one ∙ ap (λ (x : ℕ). x % 2 ^ 64) (joined-drop place ms b) in
    let bits = AllBelow-drop 2 place ms b in
    ap (λ (x : ℕ). count_ones x) (whole ∙ joined-take 64 (drop place ms) bits) ∙ count_ones-joined (take 64 (drop place ms)) (AllBelow-take 64 (drop place ms) bits)

-- one more rank
pub ranks-push : (ms ranks after : List ℕ) (k before : ℕ) → after ≡ ranks ++ before ∷ [] → length ranks ≡ k → ((j : ℕ) → j < k → get_or ranks j 0 ≡ marked (take (64 * j) ms)) → before ≡ marked (take (64 * k) ms)
    → (length after ≡ k + 1) × ((j : ℕ) → j < k + 1 → get_or after j 0 ≡ marked (take (64 * j) ms))
ranks-push ms ranks after k before e size is next = (
  ap (λ (l : List ℕ). length l) e ∙ length-append ranks (before ∷ []) ∙ omega (arith, size),
  λ j h.
      elim (cases_lt j k) [
        | inl less ↦ ap (λ (l : List ℕ). get_or l j 0) e ∙ get_or_append_left ranks (before ∷ []) 0 j (omega (arith, size, less)) ∙ is j less
        | inr more ↦
            let last : j ≡ length ranks = omega (arith, size, more, h) in
            let same : k ≡ j = omega (arith, more, h) in
            ap (λ (l : List ℕ). get_or l j 0) e ∙ ap (λ (n : ℕ). get_or (ranks ++ before ∷ []) n 0) last ∙ get_or-append_seam ranks before [] 0 ∙ next ∙ ap (λ (n : ℕ). marked (take (64 * n) ms)) same
      ],
)

-- the bytes of what marks and others stand for
pub sparse_bytes-merged : (width left : ℕ) (ms os : List ℕ) → AreSparse left ms os → IsMostFrequent (merged left ms os) left
    → word_bytes left ++ (packed_bytes 1 ms ++ packed_bytes width os) ≡ sparse_bytes width (merged left ms os)
sparse_bytes-merged width left ms os h most =
    let back = marks_of-merged left ms os h.bits h.paired h.differ in
    let is = is-most_frequent (merged left ms os) left most in
    ap (λ (l : List ℕ). word_bytes left ++ (packed_bytes 1 l ++ packed_bytes width os)) (sym back.0)
    ∙ ap (λ (l : List ℕ). word_bytes left ++ (packed_bytes 1 (marks_of left (merged left ms os)) ++ packed_bytes width l)) (sym back.1)
    ∙ ap (λ (n : ℕ). word_bytes n ++ (packed_bytes 1 (marks_of n (merged left ms os)) ++ packed_bytes width (others_of n (merged left ms os)))) is
