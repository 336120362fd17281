-- The values that keys stand for.
use Rattle.std.specs.Prelude.{ℕ, ◌-◌, ℤ, pos, negsuc, nat_lt, cond, List, [], ◌∷◌}
use Rattle.std.specs.Int.{w64, from_be_bytes}
use Rattle.ut_value.specs.declared.value.Kind.{Kind}
use Rattle.ut_value.specs.declared.value.Kind.TheVariants as kinds
use Rattle.ut_value.specs.declared.value.Value.{Value}
use Rattle.ut_value.specs.declared.value.Value.TheVariants as values
use Rattle.ut_value.specs.declared.value.Column.{Column}
use Rattle.ut_value.specs.declared.value.Row.{Row}
use Rattle.ut_l2.specs.KeyRows.{KeyRow}

-- the number whose 64 bits are these, the sign bit flipped
unfoldable pub sign_restored : ℕ → ℤ
sign_restored n = cond (nat_lt n 9223372036854775808) (negsuc (9223372036854775807 - n)) (pos (n - 9223372036854775808))

-- the value of a kind whose key this is
unfoldable pub decoded : Kind → List ℕ → Value
decoded kinds.Int key = values.Int (sign_restored (from_be_bytes w64 key))
decoded kinds.Text key = values.Text key

-- the values of columns whose keys these are
abbrev pub decoded_keys : List Column → List (List ℕ) → List Value
decoded_keys [] keys = []
decoded_keys (c ∷ cs) [] = []
decoded_keys (c ∷ cs) (key ∷ keys) = decoded c.kind key ∷ decoded_keys cs keys

-- the row whose keys these are
abbrev pub decoded_row : List Column → KeyRow → Row
decoded_row columns row = record { id = row.id; values = decoded_keys columns row.keys }
