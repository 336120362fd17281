-- Rows as their keys: what a stage in columns holds of them.
use Rattle.std.specs.Prelude.{ℕ, List, [], map, get_or}
use Rattle.ut_value.specs.declared.value.Row.{Row}
use Rattle.ut_value.specs.KeyBytes.{key_of}

-- a row's id, and the key of each of its values
pub record KeyRow : Type 0 where
  pub id : ℕ
  pub keys : List (List ℕ)

-- the keys of a row
abbrev pub keyed : Row → KeyRow
keyed r = record { id = r.id; keys = map key_of r.values }

-- what stands past the last row
abbrev pub no_row : KeyRow
no_row = record { id = 0; keys = [] }

-- the key of a row in a column
abbrev pub key_at : ℕ → KeyRow → List ℕ
key_at j r = get_or r.keys j []

-- the key of a row's value in a column
abbrev pub cell : ℕ → Row → List ℕ
cell j r = key_at j (keyed r)

-- the cells of the rows in a column
abbrev pub cells_at : ℕ → List KeyRow → List (List ℕ)
cells_at j rows = map (key_at j) rows
