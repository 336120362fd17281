-- The sparse form: one code is left out, and the others stand where they are marked.
use Rattle.std.specs.Prelude.{◌≡◌, ℕ, ◌+◌, ◌*◌, ◌/◌, ◌^◌, ◌<◌, ◌≤◌, length, take, ◌==◌, if◌then◌else◌, List, [], ◌∷◌, ◌++◌, slice_index, drop}
use Rattle.ut_bits.specs.Bits.{AllBelow, packed_bytes}
use Rattle.ut_bits.specs.Coded.{Coded}
use Rattle.ut_bits.specs.Words.{word_bytes}
use Rattle.ut_sparse.specs.Frequent.{count_of, most_frequent}

-- a mark for each code: 1 where it differs from the one that is left out
abbrev pub marks_of : ℕ → List ℕ → List ℕ
marks_of left [] = []
marks_of left (c ∷ cs) = (if c == left then 0 else 1) ∷ marks_of left cs

-- the codes that differ from the one that is left out, in order
abbrev pub others_of : ℕ → List ℕ → List ℕ
others_of left [] = []
others_of left (c ∷ cs) = if c == left then others_of left cs else c ∷ others_of left cs

-- the codes that marks and the other codes stand for
abbrev pub merged : ℕ → List ℕ → List ℕ → List ℕ
merged left [] others = []
merged left (m ∷ ms) others = if m == 0 then left ∷ merged left ms others else slice_index others 0 ∷ merged left ms (drop 1 others)

-- the bytes of codes with one left out: that code, the marks as bits, then the others at their width
abbrev pub sparse_bytes : ℕ → List ℕ → List ℕ
sparse_bytes width codes =
    let left = most_frequent codes in
    word_bytes left ++ (packed_bytes 1 (marks_of left codes) ++ packed_bytes width (others_of left codes))

-- how many rows are marked
abbrev pub marked : List ℕ → ℕ
marked [] = 0
marked (m ∷ ms) = m + marked ms

-- for each 64 rows, and behind the last, how many rows are marked before them
abbrev pub AreRanks : List ℕ → List ℕ → Type 0
AreRanks marks ranks =
    (length ranks ≡ length marks / 64 + 2)
    × ((k : ℕ) → k < length ranks → slice_index ranks k ≡ marked (take (64 * k) marks))

-- marks of 0 and 1 and as many other codes as are marked, none of them the one that is left out
pub record AreSparse (left : ℕ) (marks others : List ℕ) : Type 0 where
  pub bits : AllBelow 2 marks
  pub paired : marked marks ≡ length others
  pub differ : count_of left others ≡ 0

-- marks of one bit each, and as many other codes as are marked
pub record IsPaired (marks others : Coded) : Type 0 where
  pub few : length marks.codes ≤ 2 ^ 31
  pub width : marks.width ≡ 1
  pub bits : AllBelow 2 marks.codes
  pub paired : marked marks.codes ≡ length others.codes
