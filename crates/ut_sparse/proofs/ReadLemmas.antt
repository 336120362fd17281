-- What was read of the bytes of a sparse vector.
use Rattle.std.proofs.Common.{◌≡◌, ℕ, ◌+◌, ◌-◌, ◌^◌, ◌≤◌, List, ◌++◌, length, take, drop, sym, ◌∙◌, ap, subst, arith}
use Rattle.std.proofs.Math.Seq.{take-add}
use Rattle.ut_bits.specs.Bits.{AllBelow, packed_bytes}
use Rattle.ut_bits.specs.Words.{word_in}
use Rattle.ut_bits.proofs.BitLemmas.{take-rest}
use Rattle.ut_sparse.specs.Frequent.{count_of, most_frequent, IsMostFrequent}
use Rattle.ut_sparse.specs.Sparse.{marks_of, others_of, merged, marked, AreSparse, sparse_bytes}
use Rattle.ut_sparse.proofs.SparseLemmas.{sparse-front, read-back, merged-of, count_of-merged, length-marks_of, length-others_of, marked-marks_of, marked-le, AllBelow-marks_of, AllBelow-others_of}

-- the marks that were read
pub marks-read : (width : ℕ) (codes rest bytes marks behind : List ℕ) (n : ℕ) → width ≤ 32 → AllBelow (2 ^ width) codes → bytes ≡ sparse_bytes width codes ++ rest → behind ≡ drop 4 bytes
    → length marks ≡ length codes → AllBelow 2 marks → n ≤ length behind → take n behind ≡ packed_bytes 1 marks
    → (marks ≡ marks_of (most_frequent codes) codes) × (take (length behind - n) (drop n behind) ≡ packed_bytes width (others_of (most_frequent codes) codes) ++ rest)
marks-read width codes rest bytes marks behind n narrow h e is size bits le read =
    let front = sparse-front width codes rest bytes narrow h e in
    let back = read-back 1 n marks (marks_of (most_frequent codes) codes) _ behind bits (AllBelow-marks_of (most_frequent codes) codes) (size ∙ sym (length-marks_of (most_frequent codes) codes)) le read (is ∙ front.3) in
    (back.0, take-rest n behind ∙ back.1)

-- the whole that was read
pub codes-read : (width left : ℕ) (codes rest bytes marks others last : List ℕ) (n : ℕ) → width ≤ 32 → AllBelow (2 ^ width) codes → bytes ≡ sparse_bytes width codes ++ rest → left ≡ word_in bytes
    → marks ≡ marks_of (most_frequent codes) codes → last ≡ packed_bytes width (others_of (most_frequent codes) codes) ++ rest → length others ≡ marked marks → AllBelow (2 ^ width) others → n ≤ length last
    → take n last ≡ packed_bytes width others → (left ≡ most_frequent codes) × (merged left marks others ≡ codes)
codes-read width left codes rest bytes marks others last n narrow h e first is end size small le read =
    let front = sparse-front width codes rest bytes narrow h e in
    let word : left ≡ most_frequent codes = first ∙ front.1 in
    let same : length others ≡ length (others_of (most_frequent codes) codes) = size ∙ ap (λ l. marked l) is ∙ marked-marks_of (most_frequent codes) codes in
    let back = read-back width n others (others_of (most_frequent codes) codes) rest last small (AllBelow-others_of (2 ^ width) (most_frequent codes) codes h) same le read end in (
      word,
      ap (λ (k : ℕ). merged k marks others) word ∙ ap (λ (l : List ℕ). merged (most_frequent codes) l others) is ∙ ap (λ (l : List ℕ). merged (most_frequent codes) (marks_of (most_frequent codes) codes) l) back.0
          ∙ merged-of (most_frequent codes) codes,
    )

-- the bytes that were read
pub parts-read : (m n : ℕ) (bytes first second third : List ℕ) → take 4 bytes ≡ first → take m (drop 4 bytes) ≡ second → take n (drop m (drop 4 bytes)) ≡ third → take (4 + m + n) bytes ≡ first ++ (second ++ third)
parts-read m n bytes first second third e f g =
    let sum : 4 + m + n ≡ 4 + (m + n) = omega arith in
    ap (λ (k : ℕ). take k bytes) sum ∙ take-add 4 (m + n) bytes ∙ ap (λ (l : List ℕ). take 4 bytes ++ l) (take-add m n (drop 4 bytes))
    ∙ ap (λ (l : List ℕ). l ++ (take m (drop 4 bytes) ++ take n (drop m (drop 4 bytes)))) e ∙ ap (λ (l : List ℕ). first ++ (l ++ take n (drop m (drop 4 bytes)))) f ∙ ap (λ (l : List ℕ). first ++ (second ++ l)) g

-- none of the others that were read is the code that is left out
pub differ-read : (left : ℕ) (codes ms os : List ℕ) → left ≡ most_frequent codes → merged left ms os ≡ codes → AllBelow 2 ms → marked ms ≡ length os → ms ≡ marks_of (most_frequent codes) codes → count_of left os ≡ 0
differ-read left codes ms os e is b p m =
    let all = count_of-merged left ms os b p in
    let size = length-others_of (most_frequent codes) codes in
    let marks = ap (λ l. marked l) m ∙ marked-marks_of (most_frequent codes) codes in
    let rows = ap (λ (l : List ℕ). length l) m ∙ length-marks_of (most_frequent codes) codes in
    let count : count_of left (merged left ms os) ≡ count_of (most_frequent codes) codes = ap (λ (l : List ℕ). count_of left l) is ∙ ap (λ (k : ℕ). count_of k codes) e in
    omega (arith, all, size, marks, rows, count)

-- a list of bits or codes that was read of the front of bytes
pub record IsListRead (width count n : ℕ) (bytes list : List ℕ) : Type 0 where
  pub rows : length list ≡ count
  pub below : AllBelow (2 ^ width) list
  pub within : n ≤ length bytes
  pub spelled : take n bytes ≡ packed_bytes width list

-- the word, the marks and the others that were read are those of the codes that stand there
pub record AreAllRead (left : ℕ) (codes marks others : List ℕ) : Type 0 where
  pub word : left ≡ most_frequent codes
  pub whole : merged left marks others ≡ codes
  pub none : count_of left others ≡ 0

pub all-read : (width left : ℕ) (codes rest bytes marks others behind last : List ℕ) (rows m n : ℕ) → width ≤ 32 → AllBelow (2 ^ width) codes → bytes ≡ sparse_bytes width codes ++ rest → length codes ≡ rows → left ≡ word_in bytes
    → behind ≡ drop 4 bytes → last ≡ take (length behind - m) (drop m behind) → IsListRead 1 rows m behind marks → IsListRead width (marked marks) n last others → AreAllRead left codes marks others
all-read width left codes rest bytes marks others behind last rows m n narrow h e count first from end a b =
    let ms = marks-read width codes rest bytes marks behind m narrow h e from (a.rows ∙ sym count) a.below a.within a.spelled in
    let all = codes-read width left codes rest bytes marks others last n narrow h e first ms.0 (end ∙ ms.1) b.rows b.below b.within b.spelled in
    record { word = all.0; whole = all.1; none = differ-read left codes marks others all.0 all.1 a.below (sym b.rows) ms.0 }

-- the count of the code that is left out, of the list that was counted
pub counted-as : (left code count : ℕ) (made list : List ℕ) → list ≡ made → code ≡ left → count ≡ count_of code list → count ≡ count_of left made
counted-as left code count made list is same counted = counted ∙ ap (λ l. count_of code l) is ∙ ap (λ (n : ℕ). count_of n made) same

-- the code that is left out is the most frequent one of what was read, in as many rows as have no mark
pub sparse-by : (left code count rows : ℕ) (marks others list : List ℕ) → list ≡ merged left marks others → AllBelow 2 marks → marked marks ≡ length others → length marks ≡ rows → code ≡ left → count ≡ count_of code list → IsMostFrequent list code → count ≡ rows - marked marks
    → AreSparse left marks others × IsMostFrequent (merged left marks others) left
sparse-by left code count rows marks others list is bits paired size same counted most top =
    let all = count_of-merged left marks others bits paired in
    let here = counted-as left code count (merged left marks others) list is same counted in (
      record { bits = bits; paired = paired; differ = omega (arith, all, here, top, size, marked-le marks bits) },
      subst (λ (n : ℕ). IsMostFrequent (merged left marks others) n) same (subst (λ l. IsMostFrequent l code) is most),
    )
