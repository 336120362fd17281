-- Laws on a scan of the sparse form that goes from mark to mark.
use Rattle.std.proofs.Common.{◌≡◌, ℕ, zero, suc, ◌+◌, ◌-◌, ◌*◌, ◌/◌, ◌%◌, ◌^◌, ◌<◌, ◌≤◌, min, Bool, true, false, inl, inr, List, [], ◌∷◌, ◌++◌, length, take, drop, get_or, refl, sym, ◌∙◌, ap, arith, append-nil, append_assoc, replicate}
use Rattle.std.specs.Int.{bit_at, trailing_zeros, w64, from_bool}
use Rattle.std.specs.List.{range_with_len}
use Rattle.std.proofs.lemmas.Nat.Bits.{bit_at-trailing_zeros, bit_at-zero}
use Rattle.std.proofs.Math.Nat.{pow-le-pow_right}
use Rattle.std.proofs.Math.Seq.{take-add}
use Rattle.std.proofs.lemmas.Bool.{cases_lt}
use Rattle.std.proofs.lemmas.List.{get_or-drop, get_or-take, get_or_past, length-take, length-take-le, length-drop, take_more, drop-drop, take_all}
use Rattle.ut_bits.specs.Bits.{AllBelow, joined}
use Rattle.ut_bits.specs.Places.{places_from}
use Rattle.ut_bits.proofs.BitLemmas.{AllBelow-drop, AllBelow-take, low_field, joined-below}
use Rattle.ut_bits.proofs.PlacesLemmas.{places_from-append, places_from-take, places_from-one, places_from-none, places_from-both, places_from-all, range_with_len-more}
use Rattle.ut_sparse.specs.Sparse.{marked, merged}
use Rattle.ut_sparse.proofs.SparseLemmas.{joined-drop, joined-take, marked-next, marked-parts, length-merged, get_or-merged_left, get_or-merged_other, rank-within, take-next}

-- the marks of 64 rows from a place on
unfoldable pub word_from : ℕ → List ℕ → List ℕ
word_from place ms = take 64 (drop place ms)

low_bit : (ms : List ℕ) → AllBelow 2 ms → joined 1 ms % 2 ≡ get_or ms 0 0
low_bit [] b = refl
low_bit (m ∷ ms) b = low_field m 2 (joined 1 ms) b.0

-- the bits of the number that bits are
pub bit_at-joined : (ms : List ℕ) (i : ℕ) → AllBelow 2 ms → bit_at (joined 1 ms) i ≡ get_or ms i 0
bit_at-joined ms i b =
    let same : i + 0 ≡ i = omega arith in
    ap (λ (k : ℕ). k % 2) (joined-drop i ms b) ∙ low_bit (drop i ms) (AllBelow-drop 2 i ms b) ∙ get_or-drop i ms 0 0 ∙ ap (λ (k : ℕ). get_or ms k 0) same

-- no bit is set where the number is 0
pub bits-none : (ms : List ℕ) → AllBelow 2 ms → joined 1 ms ≡ 0 → (i : ℕ) → get_or ms i 0 ≡ 0
bits-none ms b e i = sym (bit_at-joined ms i b) ∙ ap (λ (n : ℕ). bit_at n i) e ∙ bit_at-zero i

-- the first bit that is set stands behind so many zeros
pub record IsFirstBit (ms : List ℕ) (zeros : ℕ) : Type 0 where
  pub within : zeros < length ms
  pub before : (i : ℕ) → i < zeros → get_or ms i 0 ≡ 0
  pub here : get_or ms zeros 0 ≡ 1

pub first-bit : (ms : List ℕ) (rest : ℕ) → AllBelow 2 ms → length ms ≤ 64 → rest ≡ joined 1 ms → 0 < rest → IsFirstBit ms (trailing_zeros w64 rest)
first-bit ms rest b short e some =
    let two : 0 < 2 = omega arith in
    let size : length ms * 1 ≤ 64 = omega (arith, short) in
    let below : rest < 2 ^ 64 = omega (arith, e, joined-below 1 ms b, pow-le-pow_right two size) in
    let found = bit_at-trailing_zeros w64 rest some below in
    let set : get_or ms (trailing_zeros w64 rest) 0 ≡ 1 = sym (bit_at-joined ms _ b) ∙ ap (λ (n : ℕ). bit_at n (trailing_zeros w64 rest)) (sym e) ∙ found.1 in
    record {
      within = elim (cases_lt (trailing_zeros w64 rest) (length ms)) [ inl less ↦ less | inr more ↦ absurd (omega (arith, set, get_or_past ms (trailing_zeros w64 rest) 0 more)) ];
      before = λ i h. sym (bit_at-joined ms i b) ∙ ap (λ (n : ℕ). bit_at n i) (sym e) ∙ found.2 i h;
      here = set;
    }

-- what is left of the bits behind that one
pub bits-behind : (ms : List ℕ) (passed rest zeros : ℕ) → AllBelow 2 ms → rest ≡ joined 1 (drop passed ms) → rest / 2 ^ zeros / 2 ≡ joined 1 (drop (passed + (zeros + 1)) ms)
bits-behind ms passed rest zeros b e =
    let own = AllBelow-drop 2 passed ms b in
    ap (λ (n : ℕ). n / 2 ^ zeros / 2) e ∙ ap (λ (n : ℕ). n / 2) (joined-drop zeros (drop passed ms) own) ∙ joined-drop 1 (drop zeros (drop passed ms)) (AllBelow-drop 2 zeros (drop passed ms) own)
    ∙ ap (λ (l : List ℕ). joined 1 l) (drop-drop 1 zeros (drop passed ms) ∙ drop-drop (zeros + 1) passed ms)

-- one more code of those from a place on
pub places_from-next : (test : ℕ → Bool) (s j : ℕ) (codes : List ℕ) → j < length codes
    → places_from test s (take (j + 1) codes) ≡ places_from test s (take j codes) ++ places_from test (s + j) (get_or codes j 0 ∷ [])
places_from-next test s j codes h =
    let size : length (take j codes) ≡ j = omega (arith, length-take j codes, h) in
    ap (λ l. places_from test s l) (take_more codes j 0 h) ∙ places_from-append test s (take j codes) (get_or codes j 0)
    ∙ ap (λ (k : ℕ). places_from test s (take j codes) ++ places_from test (s + k) (get_or codes j 0 ∷ [])) size

-- codes that don't pass the test give no places
pub places_from-skip : (test : ℕ → Bool) (s j n : ℕ) (codes : List ℕ) → j + n ≤ length codes → ((i : ℕ) → j ≤ i → i < j + n → test (get_or codes i 0) ≡ false)
    → places_from test s (take (j + n) codes) ≡ places_from test s (take j codes)
places_from-skip test s j zero codes h none = let same : j + 0 ≡ j = omega arith in ap (λ (k : ℕ). places_from test s (take k codes)) same
places_from-skip test s j (suc n) codes h none =
    let same : j + suc n ≡ j + n + 1 = omega arith in
    ap (λ (k : ℕ). places_from test s (take k codes)) same ∙ places_from-next test s (j + n) codes (omega (arith, h))
    ∙ ap (λ (l : List ℕ). places_from test s (take (j + n) codes) ++ l) (places_from-none test (s + (j + n)) (get_or codes (j + n) 0) (none (j + n) (omega arith) (omega arith)))
    ∙ append-nil (places_from test s (take (j + n) codes)) ∙ places_from-skip test s j n codes (omega (arith, h)) (λ i a b. none i a (omega (arith, b)))

-- rows without marks
pub marked-skip : (ms : List ℕ) (j n : ℕ) → j + n ≤ length ms → ((i : ℕ) → j ≤ i → i < j + n → get_or ms i 0 ≡ 0) → marked (take (j + n) ms) ≡ marked (take j ms)
marked-skip ms j zero h none = let same : j + 0 ≡ j = omega arith in ap (λ (k : ℕ). marked (take k ms)) same
marked-skip ms j (suc n) h none =
    let same : j + suc n ≡ j + n + 1 = omega arith in
    ap (λ (k : ℕ). marked (take k ms)) same ∙ omega (arith, marked-next ms (j + n) (omega (arith, h)), none (j + n) (omega arith) (omega arith), marked-skip ms j n (omega (arith, h)) (λ i a b. none i a (omega (arith, b))))

-- what is read at a row of a word
pub get_or-word : (place i : ℕ) (xs : List ℕ) → i < length (word_from place xs) → get_or (word_from place xs) i 0 ≡ get_or xs (place + i) 0
unfolding word_from
get_or-word place i xs h = get_or-take 64 (drop place xs) i 0 (omega (arith, length-take 64 (drop place xs), h)) ∙ get_or-drop place xs i 0

pub length-word : (place : ℕ) (xs : List ℕ) → length (word_from place xs) ≡ min 64 (length xs - place)
unfolding word_from
length-word place xs = length-take 64 (drop place xs) ∙ ap (λ (n : ℕ). min 64 n) (length-drop place xs)

pub AllBelow-word : (place : ℕ) (ms : List ℕ) → AllBelow 2 ms → AllBelow 2 (word_from place ms)
unfolding word_from
AllBelow-word place ms b = AllBelow-take 2 64 (drop place ms) (AllBelow-drop 2 place ms b)

-- the number of a word's marks
pub word-joined : (width place word : ℕ) (ms : List ℕ) → width ≡ 1 → AllBelow 2 ms → word ≡ joined width ms / 2 ^ place % 2 ^ 64 → word ≡ joined 1 (word_from place ms)
unfolding word_from
word-joined width place word ms one b e =
    e ∙ ap (λ (w : ℕ). joined w ms / 2 ^ place % 2 ^ 64) one ∙ ap (λ (x : ℕ). x % 2 ^ 64) (joined-drop place ms b) ∙ joined-take 64 (drop place ms) (AllBelow-drop 2 place ms b)

-- the places of one word more
pub places_from-word : (test : ℕ → Bool) (place : ℕ) (codes : List ℕ) → place ≤ length codes
    → places_from test 0 (take (place + 64) codes) ≡ places_from test 0 (take place codes) ++ places_from test place (take 64 (drop place codes))
places_from-word test place codes h =
    let size : length (take place codes) ≡ place = omega (arith, length-take place codes, h) in
    ap (λ l. places_from test 0 l) (take-add place 64 codes) ∙ places_from-both test 0 (take place codes) (take 64 (drop place codes))
    ∙ ap (λ (k : ℕ). places_from test 0 (take place codes) ++ places_from test k (take 64 (drop place codes))) (omega (arith, size))

-- a row of a word without a mark has the code that is left out
pub left-word : (left place i : ℕ) (ms os : List ℕ) → i < length (word_from place ms) → get_or (word_from place ms) i 0 ≡ 0 → get_or (word_from place (merged left ms os)) i 0 ≡ left
left-word left place i ms os h e =
    let size = length-word place ms in
    let whole = length-word place (merged left ms os) in
    let within : place + i < length ms = omega (arith, size, h) in
    get_or-word place i (merged left ms os) (omega (arith, whole, within, length-merged left ms os, size, h)) ∙ get_or-merged_left left ms os (place + i) within (sym (get_or-word place i ms h) ∙ e)

-- what is known at the first mark of those that are left of a word
pub record IsAtMark (left place passed rank rest zeros : ℕ) (ms os : List ℕ) : Type 0 where
  pub within : passed + zeros < length (word_from place ms)
  pub fits : place + (passed + zeros) < length ms
  pub there : rank < length os
  pub skipped : (i : ℕ) → passed ≤ i → i < passed + zeros → get_or (word_from place (merged left ms os)) i 0 ≡ left
  pub code : get_or (word_from place (merged left ms os)) (passed + zeros) 0 ≡ get_or os rank 0
  pub counted : rank + 1 ≡ marked (take (place + (passed + (zeros + 1))) ms)
  pub behind : rest / 2 ^ zeros / 2 ≡ joined 1 (drop (passed + (zeros + 1)) (word_from place ms))

pub at-mark : (left place passed rank rest : ℕ) (ms os : List ℕ) → AllBelow 2 ms → marked ms ≡ length os → passed ≤ length (word_from place ms) → rest ≡ joined 1 (drop passed (word_from place ms)) → 0 < rest
    → rank ≡ marked (take (place + passed) ms) → IsAtMark left place passed rank rest (trailing_zeros w64 rest) ms os
at-mark left place passed rank rest ms os b paired le e some count =
    let own = AllBelow-word place ms b in
    let size = length-word place ms in
    let part = length-drop passed (word_from place ms) in
    let short : length (drop passed (word_from place ms)) ≤ 64 = omega (arith, size, part) in
    let first = first-bit (drop passed (word_from place ms)) rest (AllBelow-drop 2 passed (word_from place ms) own) short e some in
    let zeros = trailing_zeros w64 rest in
    let within : passed + zeros < length (word_from place ms) = omega (arith, first.within, part) in
    let fits : place + (passed + zeros) < length ms = omega (arith, within, size) in
    let set : get_or (word_from place ms) (passed + zeros) 0 ≡ 1 = sym (get_or-drop passed (word_from place ms) zeros 0) ∙ first.here in
    let mark : get_or ms (place + (passed + zeros)) 0 ≡ 1 = sym (get_or-word place (passed + zeros) ms within) ∙ set in
    let none : (i : ℕ) → passed ≤ i → i < passed + zeros → get_or (word_from place ms) i 0 ≡ 0 =
    λ i lo hi. let at : passed + (i - passed) ≡ i = omega arith in ap (λ (k : ℕ). get_or (word_from place ms) k 0) (sym at) ∙ sym (get_or-drop passed (word_from place ms) (i - passed) 0) ∙ first.before (i - passed) (omega arith) in
    let bare : (i : ℕ) → place + passed ≤ i → i < place + passed + zeros → get_or ms i 0 ≡ 0 =
    λ i lo hi. let at : place + (i - place) ≡ i = omega arith in ap (λ (k : ℕ). get_or ms k 0) (sym at) ∙ sym (get_or-word place (i - place) ms (omega (arith, within, lo, hi))) ∙ none (i - place) (omega arith) (omega arith) in
    let sum : place + passed + zeros ≡ place + (passed + zeros) = omega arith in
    let here : rank ≡ marked (take (place + (passed + zeros)) ms) = count ∙ sym (marked-skip ms (place + passed) zeros (omega (arith, fits)) bare) ∙ ap (λ (k : ℕ). marked (take k ms)) sum in
    let whole : get_or (merged left ms os) (place + (passed + zeros)) 0 ≡ get_or os rank 0 =
    get_or-merged_other left ms os (place + (passed + zeros)) b fits (λ z. absurd (omega (arith, z, mark))) ∙ ap (λ (k : ℕ). get_or os k 0) (sym here) in
    let last : place + (passed + zeros) + 1 ≡ place + (passed + (zeros + 1)) = omega arith in
    record {
      within = within;
      fits = fits;
      there = omega (arith, here, paired, rank-within ms (place + (passed + zeros)) fits (λ z. absurd (omega (arith, z, mark))));
      skipped = λ i lo hi. left-word left place i ms os (omega (arith, hi, within)) (none i lo hi);
      code = get_or-word place (passed + zeros) (merged left ms os) (omega (arith, within, size, length-word place (merged left ms os), length-merged left ms os)) ∙ whole;
      counted = omega (arith, here, marked-next ms (place + (passed + zeros)) fits, mark) ∙ ap (λ (k : ℕ). marked (take k ms)) last;
      behind = bits-behind (word_from place ms) passed rest zeros own e;
    }

-- the places up to and with that mark
pub places-at_mark : (test : ℕ → Bool) (left place passed rank rest zeros : ℕ) (ms os : List ℕ) → test left ≡ false → IsAtMark left place passed rank rest zeros ms os
    → places_from test place (take (passed + (zeros + 1)) (word_from place (merged left ms os)))
    ≡ places_from test place (take passed (word_from place (merged left ms os))) ++ places_from test (place + (passed + zeros)) (get_or os rank 0 ∷ [])
places-at_mark test left place passed rank rest zeros ms os absent m =
    let size : length (word_from place (merged left ms os)) ≡ length (word_from place ms) = omega (arith, length-word place ms, length-word place (merged left ms os), length-merged left ms os) in
    let sum : passed + (zeros + 1) ≡ passed + zeros + 1 = omega arith in
    ap (λ (k : ℕ). places_from test place (take k (word_from place (merged left ms os)))) sum
    ∙ places_from-next test place (passed + zeros) (word_from place (merged left ms os)) (omega (arith, size, m.within))
    ∙ ap (λ (l : List ℕ). l ++ places_from test (place + (passed + zeros)) (get_or (word_from place (merged left ms os)) (passed + zeros) 0 ∷ []))
    (places_from-skip test place passed zeros (word_from place (merged left ms os)) (omega (arith, size, m.within)) (λ i lo hi. ap (λ (c : ℕ). test c) (m.skipped i lo hi) ∙ absent))
    ∙ ap (λ (c : ℕ). places_from test place (take passed (word_from place (merged left ms os))) ++ places_from test (place + (passed + zeros)) (c ∷ [])) m.code

-- the places of a word that has no more marks
pub places-unmarked : (test : ℕ → Bool) (left place passed : ℕ) (ms os : List ℕ) → AllBelow 2 ms → test left ≡ false → passed ≤ length (word_from place ms) → 0 ≡ joined 1 (drop passed (word_from place ms))
    → places_from test place (word_from place (merged left ms os)) ≡ places_from test place (take passed (word_from place (merged left ms os)))
places-unmarked test left place passed ms os b absent le e =
    let size : length (word_from place (merged left ms os)) ≡ length (word_from place ms) = omega (arith, length-word place ms, length-word place (merged left ms os), length-merged left ms os) in
    let more = length (word_from place ms) - passed in
    let none : (i : ℕ) → passed ≤ i → get_or (word_from place ms) i 0 ≡ 0 =
    λ i lo.
    let at : passed + (i - passed) ≡ i = omega arith in
    ap (λ (k : ℕ). get_or (word_from place ms) k 0) (sym at) ∙ sym (get_or-drop passed (word_from place ms) (i - passed) 0)
    ∙ bits-none (drop passed (word_from place ms)) (AllBelow-drop 2 passed (word_from place ms) (AllBelow-word place ms b)) (sym e) (i - passed) in
    sym (ap (λ l. places_from test place l) (take_all (passed + more) (word_from place (merged left ms os)) (omega (arith, size, le))))
    ∙ places_from-skip test place passed more (word_from place (merged left ms os)) (omega (arith, size, le)) (λ i lo hi. ap (λ (c : ℕ). test c) (left-word left place i ms os (omega (arith, hi, le)) (none i lo)) ∙ absent)

-- no row between two places is marked where as many are before both
pub bare : (ms : List ℕ) (a b i : ℕ) → marked (take b ms) ≡ marked (take a ms) → a ≤ i → i < b → b ≤ length ms → get_or ms i 0 ≡ 0
bare ms a b i e lo hi le =
    let before = marked-parts a (i - a) i ms (omega (arith, lo)) in
    let behind = marked-parts (i + 1) (b - (i + 1)) b ms (omega (arith, hi)) in
    omega (arith, e, before, behind, marked-next ms i (omega (arith, hi, le)))

-- the marks from a row on to the end of its word
unfoldable pub row_marks : ℕ → List ℕ → List ℕ
row_marks at ms = drop (at % 64) (word_from (64 * (at / 64)) ms)

-- they are those of a word's number without its first bits
pub row_marks-word : (width at word : ℕ) (ms : List ℕ) → width ≡ 1 → AllBelow 2 ms → word ≡ joined width ms / 2 ^ (64 * (at / 64)) % 2 ^ 64 → word / 2 ^ (at % 64) ≡ joined 1 (row_marks at ms)
unfolding row_marks
row_marks-word width at word ms one b e =
    ap (λ (x : ℕ). x / 2 ^ (at % 64)) (word-joined width (64 * (at / 64)) word ms one b e)
    ∙ joined-drop (at % 64) (word_from (64 * (at / 64)) ms) (AllBelow-word (64 * (at / 64)) ms b)

-- what is read among them
get_or-row_marks : (at i : ℕ) (ms : List ℕ) → at % 64 + i < length (word_from (64 * (at / 64)) ms) → get_or (row_marks at ms) i 0 ≡ get_or ms (at + i) 0
unfolding row_marks
get_or-row_marks at i ms h =
    let sum : 64 * (at / 64) + (at % 64 + i) ≡ at + i = omega arith in
    get_or-drop (at % 64) (word_from (64 * (at / 64)) ms) i 0 ∙ get_or-word (64 * (at / 64)) (at % 64 + i) ms h ∙ ap (λ (k : ℕ). get_or ms k 0) sum

AllBelow-row_marks : (at : ℕ) (ms : List ℕ) → AllBelow 2 ms → AllBelow 2 (row_marks at ms)
unfolding row_marks
AllBelow-row_marks at ms b = AllBelow-drop 2 (at % 64) (word_from (64 * (at / 64)) ms) (AllBelow-word (64 * (at / 64)) ms b)

-- where no bit of them is set the next mark stands behind the word
pub row_marks-none : (ms : List ℕ) (at next : ℕ) → AllBelow 2 ms → at < length ms → 0 ≡ joined 1 (row_marks at ms) → marked (take at ms) < marked ms → next ≡ (at / 64 + 1) * 64
    → (next < length ms) × (marked (take next ms) ≡ marked (take at ms))
row_marks-none ms at next b h e more is =
    let size = length-word (64 * (at / 64)) ms in
    let none : (i : ℕ) → at ≤ i → i < next → i < length ms → get_or ms i 0 ≡ 0 =
    λ i lo hi le.
    let sum : at + (i - at) ≡ i = omega (arith, lo) in
    ap (λ (k : ℕ). get_or ms k 0) (sym sum) ∙ sym (get_or-row_marks at (i - at) ms (omega (arith, size, is, lo, hi, le))) ∙ bits-none (row_marks at ms) (AllBelow-row_marks at ms b) (sym e) (i - at) in
    elim (cases_lt next (length ms)) [
      | inl less ↦
          let gap : at + (next - at) ≡ next = omega (arith, is) in
          (less, ap (λ (k : ℕ). marked (take k ms)) (sym gap) ∙ marked-skip ms at (next - at) (omega (arith, gap, less)) (λ i lo hi. none i lo (omega (arith, hi, gap)) (omega (arith, hi, gap, less))))
      | inr past ↦
          let gap : at + (length ms - at) ≡ length ms = omega (arith, h) in
          let whole : marked ms ≡ marked (take at ms) =
          ap (λ l. marked l) (sym (take_all (length ms) ms (omega arith))) ∙ ap (λ (k : ℕ). marked (take k ms)) (sym gap)
          ∙ marked-skip ms at (length ms - at) (omega (arith, gap)) (λ i lo hi. none i lo (omega (arith, hi, gap, past)) (omega (arith, hi, gap))) in
          absurd (omega (arith, more, whole))
    ]

-- a row with marks left at or behind it is there
pub more-within : (row : ℕ) (ms : List ℕ) → marked (take row ms) < marked ms → row < length ms
more-within row ms more =
    elim (cases_lt row (length ms)) [
      | inl less ↦ less
      | inr past ↦ absurd (omega (arith, more, ap (λ l. marked l) (take_all row ms past)))
    ]

-- the first mark from a row on
pub record IsNextMark (ms : List ℕ) (at mark : ℕ) : Type 0 where
  pub within : mark < length ms
  pub here : get_or ms mark 0 ≡ 1
  pub first : marked (take mark ms) ≡ marked (take at ms)

pub row_marks-some : (ms : List ℕ) (at rest : ℕ) → AllBelow 2 ms → rest ≡ joined 1 (row_marks at ms) → 0 < rest → IsNextMark ms at (at + trailing_zeros w64 rest)
unfolding row_marks
row_marks-some ms at rest b e some =
    let word = word_from (64 * (at / 64)) ms in
    let size = length-word (64 * (at / 64)) ms in
    let part = length-drop (at % 64) word in
    let first = first-bit (row_marks at ms) rest (AllBelow-drop 2 (at % 64) word (AllBelow-word (64 * (at / 64)) ms b)) (omega (arith, size, part)) e some in
    let zeros = trailing_zeros w64 rest in
    let inside : at % 64 + zeros < length word = omega (arith, first.within, part) in
    record {
      within = omega (arith, inside, size);
      here = sym (get_or-row_marks at zeros ms inside) ∙ first.here;
      first = marked-skip ms at zeros (omega (arith, inside, size)) (λ i lo hi.
          let sum : at + (i - at) ≡ i = omega (arith, lo) in
          ap (λ (k : ℕ). get_or ms k 0) (sym sum) ∙ sym (get_or-row_marks at (i - at) ms (omega (arith, inside, lo, hi))) ∙ first.before (i - at) (omega (arith, lo, hi)));
    }

-- the places of rows without marks, where the code that is left out passes
pub places-bare : (test : ℕ → Bool) (left from to : ℕ) (ms os : List ℕ) → test left ≡ true → from ≤ to → to ≤ length ms → marked (take to ms) ≡ marked (take from ms)
    → places_from test 0 (take to (merged left ms os)) ≡ places_from test 0 (take from (merged left ms os)) ++ range_with_len from (to - from)
places-bare test left from to ms os present le within e =
    let sum : from + (to - from) ≡ to = omega (arith, le) in
    ap (λ (k : ℕ). places_from test 0 (take k (merged left ms os))) (sym sum)
    ∙ places_from-all test from (to - from) (merged left ms os) 0 (omega (arith, sum, within, length-merged left ms os))
    (λ i lo hi. ap (λ (c : ℕ). test c) (get_or-merged_left left ms os i (omega (arith, hi, sum, within)) (bare ms from to i e lo (omega (arith, hi, sum)) within)) ∙ present)

-- the code at the next mark
pub code-at_mark : (left from mark rank : ℕ) (ms os : List ℕ) → AllBelow 2 ms → IsNextMark ms from mark → rank ≡ marked (take from ms) → get_or (merged left ms os) mark 0 ≡ get_or os rank 0
code-at_mark left from mark rank ms os b m count =
    get_or-merged_other left ms os mark b m.within (λ z. absurd (omega (arith, z, m.here))) ∙ ap (λ (k : ℕ). get_or os k 0) (m.first ∙ sym count)

-- the places up to and with the next mark
pub places-to_mark : (test : ℕ → Bool) (left from mark rank end : ℕ) (ms os : List ℕ) → AllBelow 2 ms → test left ≡ true → from ≤ mark → IsNextMark ms from mark → rank ≡ marked (take from ms)
    → end ≡ mark + from_bool (test (get_or os rank 0)) → places_from test 0 (take (mark + 1) (merged left ms os)) ≡ places_from test 0 (take from (merged left ms os)) ++ range_with_len from (end - from)
places-to_mark test left from mark rank end ms os b present le m count is =
    let codes = merged left ms os in
    let before = places_from test 0 (take from codes) in
    let code : get_or codes mark 0 ≡ get_or os rank 0 = code-at_mark left from mark rank ms os b m count in
    places_from-take test codes mark 0 (omega (arith, m.within, length-merged left ms os))
    ∙ ap (λ (l : List ℕ). l ++ places_from test mark (get_or codes mark 0 ∷ [])) (places-bare test left from mark ms os present le (omega (arith, m.within)) m.first)
    ∙ ap (λ (c : ℕ). (before ++ range_with_len from (mark - from)) ++ places_from test mark (c ∷ [])) code
    ∙ append_assoc before (range_with_len from (mark - from)) _
    ∙ ap (λ (l : List ℕ). before ++ l) (last (test (get_or os rank 0)) mark from end (get_or os rank 0) le is refl)
  where
    last : (yes : Bool) (mark from end c : ℕ) → from ≤ mark → end ≡ mark + from_bool yes → test c ≡ yes → range_with_len from (mark - from) ++ places_from test mark (c ∷ []) ≡ range_with_len from (end - from)
    last true mark from end c le is e =
        let sum : from + (mark - from) ≡ mark = omega (arith, le) in
        let more : mark - from + 1 ≡ end - from = omega (arith, le, is) in
        ap (λ (l : List ℕ). range_with_len from (mark - from) ++ l) (places_from-one test mark c e) ∙ ap (λ (k : ℕ). range_with_len from (mark - from) ++ k ∷ []) (sym sum)
        ∙ range_with_len-more from (mark - from) ∙ ap (λ (k : ℕ). range_with_len from k) more
    last false mark from end c le is e =
        let same : mark - from ≡ end - from = omega (arith, le, is) in
        ap (λ (l : List ℕ). range_with_len from (mark - from) ++ l) (places_from-none test mark c e) ∙ append-nil (range_with_len from (mark - from)) ∙ ap (λ (k : ℕ). range_with_len from k) same

replicate-more : (n x : ℕ) → replicate n x ++ x ∷ [] ≡ replicate (suc n) x
replicate-more zero x = refl
replicate-more (suc n) x = ap (λ (l : List ℕ). x ∷ l) (replicate-more n x)

-- equal elements from a place on
take-same : (codes : List ℕ) (from n x : ℕ) → from + n ≤ length codes → ((i : ℕ) → from ≤ i → i < from + n → get_or codes i 0 ≡ x) → take (from + n) codes ≡ take from codes ++ replicate n x
take-same codes from zero x h same = let e : from + 0 ≡ from = omega arith in ap (λ (k : ℕ). take k codes) e ∙ sym (append-nil (take from codes))
take-same codes from (suc n) x h same =
    let e : from + suc n ≡ from + n + 1 = omega arith in
    ap (λ (k : ℕ). take k codes) e ∙ take-next codes (from + n) (omega (arith, h)) ∙ ap (λ (c : ℕ). take (from + n) codes ++ c ∷ []) (same (from + n) (omega arith) (omega arith))
    ∙ ap (λ (l : List ℕ). l ++ x ∷ []) (take-same codes from n x (omega (arith, h)) (λ i lo hi. same i lo (omega (arith, hi)))) ∙ append_assoc (take from codes) (replicate n x) (x ∷ [])
    ∙ ap (λ (l : List ℕ). take from codes ++ l) (replicate-more n x)

-- the codes of rows without marks are filled in
pub filled : (left from to old : ℕ) (ms os before after : List ℕ) → after ≡ take to before ++ replicate (to - old) left → old ≡ length before → before ≡ take from (merged left ms os) → from ≤ to → to ≤ length ms
    → marked (take to ms) ≡ marked (take from ms) → after ≡ take to (merged left ms os)
filled left from to old ms os before after e size is le within none =
    let codes = merged left ms os in
    let long : length codes ≡ length ms = length-merged left ms os in
    let short : length before ≡ from = ap (λ (l : List ℕ). length l) is ∙ length-take-le from codes (omega (arith, le, within, long)) in
    let gap : to - old ≡ to - from = omega (arith, size, short) in
    let sum : from + (to - from) ≡ to = omega (arith, le) in
    e ∙ ap (λ (l : List ℕ). l ++ replicate (to - old) left) (take_all to before (omega (arith, short, le)) ∙ is) ∙ ap (λ (k : ℕ). take from codes ++ replicate k left) gap
    ∙ sym (take-same codes from (to - from) left (omega (arith, sum, within, long)) (λ i lo hi. get_or-merged_left left ms os i (omega (arith, hi, sum, within)) (bare ms from to i none lo (omega (arith, hi, sum)) within)))
    ∙ ap (λ (k : ℕ). take k codes) sum
