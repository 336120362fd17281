-- The own dictionary of a column, and the number of different keys.
use Rattle.std.specs.Prelude.{◌≡◌, ℕ, Contains, List, [], length}
use Rattle.ut_key.specs.Keys.{IsAscending}
use Rattle.ut_own.specs.Own.{own_dict}
use Rattle.ut_plain.specs.Merges.{distinct}

-- exactly the keys of cells that no earlier dictionary has, each once, ascending
pub record AreNewKeys (earlier cells dict : List (List ℕ)) : Type 0 where
  pub ascending : IsAscending dict
  pub all : (key : List ℕ) → Contains cells key → (Contains earlier key → ⊥) → Contains dict key
  pub only : (key : List ℕ) → Contains dict key → Contains cells key
  pub new : (key : List ℕ) → Contains dict key → Contains earlier key → ⊥

-- those are the own dictionary
abbrev pub OwnDictHasNewKeys : Type 0
OwnDictHasNewKeys = (earlier cells : List (List ℕ)) → AreNewKeys earlier cells (own_dict earlier cells)

-- and no other list is
abbrev pub IsOnlyOwnDict : Type 0
IsOnlyOwnDict = (earlier cells dict : List (List ℕ)) → AreNewKeys earlier cells dict → dict ≡ own_dict earlier cells

-- There are as many different keys as a list of them has that has each once, ascending.
abbrev pub CountsKeys : Type 0
CountsKeys = (keys dict : List (List ℕ)) → AreNewKeys [] keys dict → distinct keys ≡ length dict
