-- The bytes by which the values of a column are ordered.
use Rattle.std.specs.Prelude.{◌≡◌, ℕ, ◌+◌, ◌-◌, ℤ, pos, negsuc, Bool, true, false, nat_lt, IsTrue, List}
use Rattle.std.specs.Int.{w64, to_be_bytes}
use Rattle.ut_value.specs.declared.value.Kind.{Kind}
use Rattle.ut_value.specs.declared.value.Kind.TheVariants as kinds
use Rattle.ut_value.specs.declared.value.Value.{Value}
use Rattle.ut_value.specs.declared.value.Value.TheVariants as values
use Rattle.ut_value.specs.Text.{is_text}

-- the 64 bits of a number as an unsigned number, the sign bit flipped
abbrev pub sign_flipped : ℤ → ℕ
sign_flipped (pos n) = n + 9223372036854775808
sign_flipped (negsuc n) = 9223372036854775807 - n

-- the key bytes of a number: eight, the highest first
abbrev pub int_key : ℤ → List ℕ
int_key x = to_be_bytes w64 (sign_flipped x)

-- the key bytes of a value
abbrev pub key_of : Value → List ℕ
key_of (values.Int x) = int_key x
key_of (values.Text bytes) = bytes

-- whether a number has 64 bits
abbrev pub is_int : ℤ → Bool
is_int (pos n) = nat_lt n 9223372036854775808
is_int (negsuc n) = nat_lt n 9223372036854775808

-- whether a value keeps its rule
abbrev pub is_value : Value → Bool
is_value (values.Int x) = is_int x
is_value (values.Text bytes) = is_text bytes

-- whether a value is of a kind
abbrev pub is_of_kind : Kind → Value → Bool
is_of_kind kinds.Int (values.Int x) = true
is_of_kind kinds.Int (values.Text x) = false
is_of_kind kinds.Text (values.Int x) = false
is_of_kind kinds.Text (values.Text x) = true

-- these bytes are the key of that value of that kind
abbrev pub IsKeyOf : Kind → List ℕ → Value → Type 0
IsKeyOf kind key value = IsTrue (is_of_kind kind value) × IsTrue (is_value value) × (key ≡ key_of value)
