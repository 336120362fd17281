-- Numbers of 32 bits as four bytes, the lowest first.
use Rattle.std.specs.Prelude.{ℕ, List, take}
use Rattle.ut_bits.specs.Bits.{bytes_of, number_of}

-- the four bytes of a number
unfoldable pub word_bytes : ℕ → List ℕ
word_bytes x = bytes_of 4 x

-- the number that the first four bytes spell
unfoldable pub word_in : List ℕ → ℕ
word_in bytes = number_of (take 4 bytes)
