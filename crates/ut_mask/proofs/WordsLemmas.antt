-- Laws on the words of a mask.
use Rattle.std.proofs.Common.{◌≡◌, ℕ, zero, suc, ◌+◌, ◌-◌, ◌*◌, ◌/◌, ◌%◌, ◌^◌, ◌<◌, ◌≤◌, eqb, Bool, true, false, cond, ◌&&◌, inl, inr, List, [], ◌∷◌, ◌++◌, length, take, drop, get_or, refl, sym, ◌∙◌, ap, arith, length-append, append-nil, append_assoc}
use Rattle.std.specs.Prelude.{replicate, not, set}
use Rattle.std.specs.List.{list_all, count_by, sum_by}
use Rattle.std.specs.Int.Bits.{bit_and}
use Rattle.std.specs.Int.RustNames.{count_ones}
use Rattle.std.specs.Simd.Lanes.{mask_l}
use Rattle.std.proofs.lemmas.List.{length-replicate, length-set, take_at, drop_at, replicate-append-replicate, map-id, get_or_read, length-take-le, get_or-take, get_or-drop}
use Rattle.std.proofs.lemmas.List.Sums.{sum_by-append, sum_by-take-drop}
use Rattle.std.proofs.lemmas.Simd.{ones-mask_l}
use Rattle.std.proofs.lemmas.Bool.{cases_lt, ne_eqb}
use Rattle.ut_mask.specs.Mask.{kept_from, word_bits, words_bits, IsMask, IsNext}
use Rattle.ut_mask.proofs.BitLemmas.{length-word_bits, word_bits-ones, mask_l-word_bits}
use Rattle.ut_mask.proofs.KeptLemmas.{words_bits-set, take-kept_from, drop-kept_from}

-- a mask in which every place stands

whole-words : (n last : ℕ) → words_bits (replicate n 18446744073709551615 ++ last ∷ []) ≡ replicate (64 * n) true ++ word_bits last
whole-words zero last = append-nil (word_bits last)
whole-words (suc n) last =
    let sum : 64 + 64 * n ≡ 64 * suc n = omega arith in
    let word : word_bits 18446744073709551615 ≡ replicate 64 true = word_bits-ones 64 0 18446744073709551615 refl (omega arith) ∙ append-nil (replicate 64 true) in
    ap (λ (l : List Bool). word_bits 18446744073709551615 ++ l) (whole-words n last)
    ∙ ap (λ (l : List Bool). l ++ (replicate (64 * n) true ++ word_bits last)) word
    ∙ sym (append_assoc (replicate 64 true) (replicate (64 * n) true) (word_bits last))
    ∙ ap (λ (l : List Bool). l ++ word_bits last) (replicate-append-replicate 64 (64 * n) true ∙ ap (λ (k : ℕ). replicate k true) sum)

pub all-stand : (len whole last : ℕ) (ws : List ℕ) → len ≤ 2 ^ 31 → whole ≡ len / 64 → last + 1 ≡ 2 ^ (len % 64) → ws ≡ replicate whole 18446744073709551615 ++ last ∷ []
    → IsMask len ws × (take len (words_bits ws) ≡ replicate len true)
all-stand len whole last ws small e is items =
    let sum : 64 * whole + len % 64 ≡ len = omega (arith, e) in
    let bits : words_bits ws ≡ replicate len true ++ replicate (64 - len % 64) false =
    ap (λ l. words_bits l) items ∙ whole-words whole last
    ∙ ap (λ (l : List Bool). replicate (64 * whole) true ++ l) (word_bits-ones (len % 64) (64 - len % 64) last (omega arith) is)
    ∙ sym (append_assoc (replicate (64 * whole) true) (replicate (len % 64) true) (replicate (64 - len % 64) false))
    ∙ ap (λ (l : List Bool). l ++ replicate (64 - len % 64) false) (replicate-append-replicate (64 * whole) (len % 64) true ∙ ap (λ (k : ℕ). replicate k true) sum) in (
      record {
        few = small;
        count = omega (arith, e, ap (λ (l : List ℕ). length l) items, length-append (replicate whole 18446744073709551615) (last ∷ []), length-replicate {A = ℕ} whole 18446744073709551615);
        rest = ap (λ (l : List Bool). drop len l) bits ∙ drop_at (replicate len true) (replicate (64 - len % 64) false) len (length-replicate len true);
      },
      ap (λ (l : List Bool). take len l) bits ∙ take_at (replicate len true) (replicate (64 - len % 64) false) len (length-replicate len true),
    )

-- one word is kept only where another has digits
pub keep-one : (len k n w b : ℕ) (ws : List ℕ) (now : List Bool) → IsMask len ws → take len (words_bits ws) ≡ now → w ≡ get_or ws k w → n ≡ 64 * k → k < length ws
    → IsMask len (set ws k (bit_and w b)) × (take len (words_bits (set ws k (bit_and w b))) ≡ kept_from n now (word_bits b))
keep-one len k n w b ws now mask view is e within =
    let read : w ≡ get_or ws k 0 = get_or_read ws k w within is 0 in
    let bits : words_bits (set ws k (bit_and w b)) ≡ kept_from n (words_bits ws) (word_bits b) =
    ap (λ (x : ℕ). words_bits (set ws k (bit_and x b))) read ∙ words_bits-set n k b ws e within in (
      record {
        few = mask.few;
        count = length-set ws k (bit_and w b) ∙ mask.count;
        rest = ap (λ (l : List Bool). drop len l) bits ∙ drop-kept_from len n (64 - len % 64) (words_bits ws) (word_bits b) mask.rest;
      },
      ap (λ (l : List Bool). take len l) bits ∙ take-kept_from len n (words_bits ws) (word_bits b) ∙ ap (λ (l : List Bool). kept_from n l (word_bits b)) view,
    )

pub length-words_bits : (ws : List ℕ) → length (words_bits ws) ≡ 64 * length ws
length-words_bits [] = refl
length-words_bits (w ∷ ws) = omega (arith, length-append (word_bits w) (words_bits ws), length-word_bits w, length-words_bits ws)

pub length-view : (len : ℕ) (ws : List ℕ) → IsMask len ws → length (take len (words_bits ws)) ≡ len
length-view len ws mask = length-take-le len (words_bits ws) (omega (arith, mask.count, length-words_bits ws))

-- the number of places that stand

count-word : (w : ℕ) → w < 2 ^ 64 → count_by (λ (b : Bool). b) (word_bits w) ≡ count_ones w
count-word w h =
    sym (ones-mask_l (λ (b : Bool). b) (word_bits w)) ∙ ap (λ (l : List Bool). count_ones (mask_l l)) (map-id (word_bits w)) ∙ ap (λ (k : ℕ). count_ones k) (mask_l-word_bits w h)

words_bits-append : (xs ys : List ℕ) → words_bits (xs ++ ys) ≡ words_bits xs ++ words_bits ys
words_bits-append [] ys = refl
words_bits-append (x ∷ xs) ys = ap (λ (l : List Bool). word_bits x ++ l) (words_bits-append xs ys) ∙ sym (append_assoc (word_bits x) (words_bits xs) (words_bits ys))

-- the number that stand in one word more
pub count-more : (w : ℕ) (ws more : List ℕ) → w < 2 ^ 64 → more ≡ ws ++ w ∷ [] → count_by (λ (b : Bool). b) (words_bits more) ≡ count_by (λ (b : Bool). b) (words_bits ws) + count_ones w
count-more w ws more h e =
    let digit = λ (b : Bool). cond b 1 0 in
    ap (λ l. sum_by digit (words_bits l)) e ∙ ap (λ (l : List Bool). sum_by digit l) (words_bits-append ws (w ∷ []) ∙ ap (λ (l : List Bool). words_bits ws ++ l) (append-nil (word_bits w)))
    ∙ sum_by-append digit (words_bits ws) (word_bits w) ∙ ap (λ (k : ℕ). sum_by digit (words_bits ws) + k) (count-word w h)

count-false : (n : ℕ) → count_by (λ (b : Bool). b) (replicate n false) ≡ 0
count-false zero = refl
count-false (suc n) = omega (arith, count-false n)

-- nothing stands behind the last place
pub count-all : (len : ℕ) (ws : List ℕ) → IsMask len ws → count_by (λ (b : Bool). b) (words_bits ws) ≡ count_by (λ (b : Bool). b) (take len (words_bits ws))
count-all len ws mask =
    let digit = λ (b : Bool). cond b 1 0 in
    let sum = sum_by-take-drop digit (words_bits ws) len in
    let none : sum_by digit (drop len (words_bits ws)) ≡ 0 = ap (λ (l : List Bool). sum_by digit l) mask.rest ∙ count-false (64 - len % 64) in
    omega (arith, sum, none)

-- whether a word is 0

even-zero : (m : ℕ) → eqb (0 + 2 * m) 0 ≡ eqb m 0
even-zero zero = refl
even-zero (suc m) = ne_eqb (0 + 2 * suc m) 0 (λ e. omega (arith, e)) ∙ sym (ne_eqb (suc m) 0 (λ e. omega (arith, e)))

odd-zero : (m : ℕ) → eqb (1 + 2 * m) 0 ≡ false
odd-zero m = ne_eqb (1 + 2 * m) 0 (λ e. omega (arith, e))

mask_l-zero : (bs : List Bool) → eqb (mask_l bs) 0 ≡ list_all not bs
mask_l-zero [] = refl
mask_l-zero (true ∷ bs) = odd-zero (mask_l bs)
mask_l-zero (false ∷ bs) = even-zero (mask_l bs) ∙ mask_l-zero bs

block : (k n : ℕ) (ws : List ℕ) → n ≡ 64 * k → k < length ws → take 64 (drop n (words_bits ws)) ≡ word_bits (get_or ws k 0)
block k n [] e h = absurd (omega (arith, h))
block zero n (w ∷ ws) e h =
    let none : n ≡ 0 = omega (arith, e) in
    ap (λ (j : ℕ). take 64 (drop j (word_bits w ++ words_bits ws))) none ∙ take_at (word_bits w) (words_bits ws) 64 (length-word_bits w)
block (suc k) n (w ∷ ws) e h =
    let sum : n ≡ 64 * k + 64 = omega (arith, e) in
    ap (λ (j : ℕ). take 64 (drop j (word_bits w ++ words_bits ws))) sum
    ∙ ap (λ (l : List Bool). take 64 l) (drop-behind (64 * k) 64 (word_bits w) (words_bits ws) (length-word_bits w))
    ∙ block k (64 * k) ws refl (omega (arith, h))
  where
    drop-behind : (i n : ℕ) (xs ys : List Bool) → length xs ≡ n → drop (i + n) (xs ++ ys) ≡ drop i ys
    drop-behind i n [] ys e = let same : i + n ≡ i = omega (arith, e) in ap (λ (j : ℕ). drop j ys) same
    drop-behind i zero (x ∷ xs) ys e = absurd (omega (arith, e))
    drop-behind i (suc n) (x ∷ xs) ys e = let same : i + suc n ≡ suc (i + n) = omega arith in ap (λ (j : ℕ). drop j (x ∷ (xs ++ ys))) same ∙ drop-behind i n xs ys (omega (arith, e))

clear-nil : (n : ℕ) → list_all not (take n []) ≡ true
clear-nil zero = refl
clear-nil (suc n) = refl

clear-false : (n i r : ℕ) → list_all not (take n (drop i (replicate r false))) ≡ true
clear-false zero i r = refl
clear-false (suc n) zero zero = refl
clear-false (suc n) zero (suc r) = clear-false n zero r
clear-false (suc n) (suc i) zero = refl
clear-false (suc n) (suc i) (suc r) = clear-false (suc n) i r

cut : (len i n r : ℕ) (bs : List Bool) → drop len bs ≡ replicate r false → list_all not (take n (drop i (take len bs))) ≡ list_all not (take n (drop i bs))
cut zero i n r bs e = none i n ∙ sym (ap (λ (l : List Bool). list_all not (take n (drop i l))) e ∙ clear-false n i r)
  where
    none : (i n : ℕ) → list_all not (take n (drop i [])) ≡ true
    none zero n = clear-nil n
    none (suc i) n = clear-nil n
cut (suc len) i n r [] e = refl
cut (suc len) zero zero r (b ∷ bs) e = refl
cut (suc len) zero (suc n) r (b ∷ bs) e = ap (λ (t : Bool). not b && t) (cut len zero n r bs e)
cut (suc len) (suc i) n r (b ∷ bs) e = cut len i n r bs e

pub zero-clear : (w : ℕ) → w < 2 ^ 64 → eqb w 0 ≡ list_all not (word_bits w)
zero-clear w h = ap (λ (j : ℕ). eqb j 0) (sym (mask_l-word_bits w h)) ∙ mask_l-zero (word_bits w)

-- a word without digits: no place of it stands
pub word-clear : (len k n w : ℕ) (ws : List ℕ) (now : List Bool) → IsMask len ws → take len (words_bits ws) ≡ now → w ≡ get_or ws k w → n ≡ 64 * k → k < length ws
    → list_all not (word_bits w) ≡ list_all not (take 64 (drop n now))
word-clear len k n w ws now mask view is e within =
    ap (λ (j : ℕ). list_all not (word_bits j)) (get_or_read ws k w within is 0)
    ∙ ap (λ (l : List Bool). list_all not l) (sym (block k n ws e within))
    ∙ sym (cut len n 64 (64 - len % 64) (words_bits ws) mask.rest)
    ∙ ap (λ (l : List Bool). list_all not (take 64 (drop n l))) view

-- the place of a digit
pub get_or-words_bits : (k j n : ℕ) (ws : List ℕ) → n ≡ 64 * k + j → j < 64 → k < length ws → get_or (words_bits ws) n false ≡ get_or (word_bits (get_or ws k 0)) j false
get_or-words_bits k j n ws e h within =
    ap (λ (i : ℕ). get_or (words_bits ws) i false) e
    ∙ sym (get_or-drop (64 * k) (words_bits ws) j false)
    ∙ sym (get_or-take 64 (drop (64 * k) (words_bits ws)) j false h)
    ∙ ap (λ (l : List Bool). get_or l j false) (block k (64 * k) ws refl within)

-- what stands among the words stands in the mask
pub within-view : (len i : ℕ) (ws : List ℕ) → IsMask len ws → get_or (words_bits ws) i false ≡ true → i < len
within-view len i ws mask h =
    elim (cases_lt i len) [
      | inl less ↦ less
      | inr more ↦
          let sum : len + (i - len) ≡ i = omega (arith, more) in
          let none : get_or (words_bits ws) i false ≡ false =
          ap (λ (j : ℕ). get_or (words_bits ws) j false) (sym sum) ∙ sym (get_or-drop len (words_bits ws) (i - len) false) ∙ ap (λ (l : List Bool). get_or l (i - len) false) mask.rest
          ∙ get_or-false (64 - len % 64) (i - len) in
          absurd (different (sym none ∙ h))
    ]
  where
    different : false ≡ true → ⊥
    different e = cc

    get_or-false : (n i : ℕ) → get_or (replicate n false) i false ≡ false
    get_or-false zero i = refl
    get_or-false (suc n) zero = refl
    get_or-false (suc n) (suc i) = get_or-false n i

-- a place of the mask among the words
pub in-view : (len j : ℕ) (ws : List ℕ) (now : List Bool) → take len (words_bits ws) ≡ now → j < len → get_or now j false ≡ get_or (words_bits ws) j false
in-view len j ws now view less = ap (λ (l : List Bool). get_or l j false) (sym view) ∙ get_or-take len (words_bits ws) j false less

-- nothing stands from a place up to the lowest digit of the word behind which the search goes on
pub none-more : (k from at low : ℕ) (ws : List ℕ) → k < length ws → at / 64 ≡ k → low ≤ 64 → ((j : ℕ) → from ≤ j → j < at → get_or (words_bits ws) j false ≡ false)
    → ((j : ℕ) → at % 64 ≤ j → j < low → get_or (word_bits (get_or ws k 0)) j false ≡ false) → (j : ℕ) → from ≤ j → j < 64 * k + low → get_or (words_bits ws) j false ≡ false
none-more k from at low ws within e le before here j behind less =
    elim (cases_lt j at) [
      | inl earlier ↦ before j behind earlier
      | inr later ↦
          let sum : j ≡ 64 * k + (j - 64 * k) = omega (arith, e, later) in
          get_or-words_bits k (j - 64 * k) j ws sum (omega (arith, le, less, sum)) within ∙ here (j - 64 * k) (omega (arith, e, later)) (omega (arith, less, sum))
    ]

-- a digit found is the next place that stands
pub next-found : (len k from at low : ℕ) (ws : List ℕ) (now : List Bool) → IsMask len ws → take len (words_bits ws) ≡ now → k < length ws → at / 64 ≡ k → from ≤ at → at % 64 ≤ low → low < 64
    → ((j : ℕ) → from ≤ j → j < at → get_or (words_bits ws) j false ≡ false) → get_or (word_bits (get_or ws k 0)) low false ≡ true
    → ((j : ℕ) → at % 64 ≤ j → j < low → get_or (word_bits (get_or ws k 0)) j false ≡ false) → IsNext now from (64 * k + low)
next-found len k from at low ws now mask view within e le behind inside before stands here =
    let digit : get_or (words_bits ws) (64 * k + low) false ≡ true = get_or-words_bits k low (64 * k + low) ws refl inside within ∙ stands in
    let less : 64 * k + low < len = within-view len (64 * k + low) ws mask digit in
    let long : length now ≡ len = ap (λ (l : List Bool). length l) (sym view) ∙ length-view len ws mask in
    record {
      behind = omega (arith, e, le, behind);
      within = omega (arith, less, long);
      stands = in-view len (64 * k + low) ws now view less ∙ digit;
      first = λ j lo hi. in-view len j ws now view (omega (arith, hi, less)) ∙ none-more k from at low ws within e (omega (arith, inside)) before here j lo hi;
    }
