-- What a vector of codes is seen as.
use Rattle.std.specs.Prelude.{◌≡◌, ℕ, ◌^◌, ◌≤◌, List, length}
use Rattle.ut_bits.specs.Bits.{AllBelow}

-- codes, and how many bits each has where it is packed
pub record Coded : Type 0 where
  pub width : ℕ
  pub codes : List ℕ

-- a vector is of these codes at this width
pub record HasCodes (w : ℕ) (cs : List ℕ) (v : Coded) : Type 0 where
  pub width : v.width ≡ w
  pub codes : v.codes ≡ cs

-- a vector of n codes, each in w bits, was read from as many of the bytes as are counted
pub record IsRead (w n : ℕ) (bytes : List ℕ) (v : Coded) (count : ℕ) : Type 0 where
  pub within : count ≤ length bytes
  pub width : v.width ≡ w
  pub rows : length v.codes ≡ n
  pub below : AllBelow (2 ^ w) v.codes
