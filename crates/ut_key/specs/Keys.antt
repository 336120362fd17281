-- Keys as lists of bytes: their order, how long they are, and the six comparisons.
use Rattle.std.specs.Prelude.{◌≡◌, ℕ, ◌<◌, ◌≤◌, All, Bool, List, [], length, get_or}
use Rattle.std.specs.declared.cmp.Ordering.{Ordering}
use Rattle.std.specs.declared.cmp.Ordering.TheVariants.{Less}
use Rattle.std.specs.Cmp.Lexicographic.{slice_cmp}
use Rattle.std.specs.Ordering.{nat_cmp, is_eq, is_ne, is_lt, is_le, is_gt, is_ge}
use Rattle.ut_key.specs.declared.comparison.Cmp.{Cmp}
use Rattle.ut_key.specs.declared.comparison.Cmp.TheVariants.{Eq, Ne, Lt, Le, Gt, Ge}

-- the order of keys by their bytes
abbrev pub key_cmp : List ℕ → List ℕ → Ordering
key_cmp = slice_cmp nat_cmp

-- each key is below those behind it
abbrev pub IsAscending : List (List ℕ) → Type 0
IsAscending keys = (i j : ℕ) → i < j → j < length keys → key_cmp (get_or keys i []) (get_or keys j []) ≡ Less

-- no key has more than 255 bytes
abbrev pub AreShort : List (List ℕ) → Type 0
AreShort keys = All (λ key. length key ≤ 255) keys

-- whether a comparison allows an order
abbrev pub allows : Cmp → Ordering → Bool
allows Eq o = is_eq o
allows Ne o = is_ne o
allows Lt o = is_lt o
allows Le o = is_le o
allows Gt o = is_gt o
allows Ge o = is_ge o

-- whether a key meets a comparison with another
abbrev pub meets : Cmp → List ℕ → List ℕ → Bool
meets op with key = allows op (key_cmp key with)
