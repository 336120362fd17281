-- Numbers as bytes and as fields of bits, the lowest first.
use Rattle.std.specs.Prelude.{ℕ, zero, suc, ◌+◌, ◌*◌, ◌/◌, ◌%◌, ◌^◌, ◌<◌, List, [], ◌∷◌, length}

-- the number that bytes spell
abbrev pub number_of : List ℕ → ℕ
number_of [] = 0
number_of (b ∷ bs) = b + 256 * number_of bs

-- the lowest n bytes of x
abbrev pub bytes_of : ℕ → ℕ → List ℕ
bytes_of zero x = []
bytes_of (suc n) x = x % 256 ∷ bytes_of n (x / 256)

-- codes laid end to end, each in w bits
abbrev pub joined : ℕ → List ℕ → ℕ
joined w [] = 0
joined w (c ∷ cs) = c + 2 ^ w * joined w cs

-- the lowest n fields of x, each of w bits
abbrev pub fields : ℕ → ℕ → ℕ → List ℕ
fields w zero x = []
fields w (suc n) x = x % 2 ^ w ∷ fields w n (x / 2 ^ w)

-- how many bytes hold n bits
abbrev pub byte_count : ℕ → ℕ
byte_count n = (n + 7) / 8

-- the bytes of codes, each in w bits; unused bits are 0
abbrev pub packed_bytes : ℕ → List ℕ → List ℕ
packed_bytes w codes = bytes_of (byte_count (length codes * w)) (joined w codes)

-- every element is below n
abbrev pub AllBelow : ℕ → List ℕ → Type 0
AllBelow n [] = Unit {0}
AllBelow n (x ∷ xs) = (x < n) × AllBelow n xs

-- a count of bits and their number
pub record BitString : Type 0 where
  pub count : ℕ
  pub number : ℕ
