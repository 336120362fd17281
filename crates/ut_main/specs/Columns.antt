-- A column of a part: the dictionaries that its codes count through, and its cells.
use Rattle.std.specs.Prelude.{◌≡◌, ◌≢◌, ℕ, ◌-◌, ◌<◌, List, [], ◌∷◌, ◌++◌, length, map, take, get_or}
use Rattle.std.specs.List.{position_or_len}
use Rattle.std.specs.Ordering.{is_eq}
use Rattle.ut_bits.specs.Bits.{AllBelow}
use Rattle.ut_codes.specs.Reached.{Reached}
use Rattle.ut_key.specs.Keys.{key_cmp}
use Rattle.ut_own.specs.Own.{own_dict, cells_of}
use Rattle.ut_prefix.specs.Chain.{end_to_end}

-- a chain of dictionaries, as a list of them
abbrev pub Chain : Type 0
Chain = List (List (List ℕ))

-- a column as contracts see it: the dictionaries of the parts before its part, and its cells
pub record ColumnValue : Type 0 where
  pub before : Chain
  pub cells : List (List ℕ)

-- what stands past the last column
abbrev pub no_column : ColumnValue
no_column = record { before = []; cells = [] }

-- dictionaries, and behind them the own dictionary of cells
abbrev pub chain_of : Chain → List (List ℕ) → Chain
chain_of before cells = before ++ own_dict (end_to_end before) cells ∷ []

-- the place of a key among keys
abbrev pub place_of : List (List ℕ) → List ℕ → ℕ
place_of keys key = position_or_len (λ k. is_eq (key_cmp key k)) keys

-- cells coded through all their dictionaries, and how many codes these have
abbrev pub vector_of : Chain → List (List ℕ) → Reached
vector_of before cells = record {
  reach = length (end_to_end (chain_of before cells));
  codes = map (place_of (end_to_end (chain_of before cells))) cells;
}

-- no key stands twice among these
abbrev pub AreDistinct : List (List ℕ) → Type 0
AreDistinct keys = (i j : ℕ) → i < j → j < length keys → get_or keys i [] ≢ get_or keys j []

-- codes through some dictionaries and one behind them, which is the own one of their cells
pub record StandsBehind (before : Chain) (dict : List (List ℕ)) (v : Reached) : Type 0 where
  pub reach : v.reach ≡ length (end_to_end (before ++ dict ∷ []))
  pub below : AllBelow v.reach v.codes
  pub own : dict ≡ own_dict (end_to_end before) (cells_of (end_to_end (before ++ dict ∷ [])) v.codes)

-- the dictionaries of a chain but the last
abbrev pub earlier : Chain → Chain
earlier chain = take (length chain - 1) chain

-- what a column keeps of its own dictionary, the whole chain and its codes
pub record IsColumn (dict : List (List ℕ)) (chain : Chain) (v : Reached) : Type 0 where
  pub last : chain ≡ earlier chain ++ dict ∷ []
  pub distinct : AreDistinct (end_to_end chain)
  pub behind : StandsBehind (earlier chain) dict v
