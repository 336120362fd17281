-- Numbers, names, columns and values, each as one word spells it.
use Rattle.std.specs.Prelude.{ℕ, suc, ◌+◌, ◌-◌, ◌*◌, ℤ, pos, negsuc, Bool, true, false, not, ◌&&◌, nat_eq, nat_le, nat_lt, if◌then◌else◌, List, [], ◌∷◌, length, take, drop, codes, Option, None, Some, option_and_then}
use Rattle.std.specs.Option.{option_map}
use Rattle.std.specs.List.{list_all}
use Rattle.ut_value.specs.Text.{same_bytes, is_text, is_name, is_digit}
use Rattle.ut_value.specs.declared.value.Kind.{Kind}
use Rattle.ut_value.specs.declared.value.Kind.TheVariants as kinds
use Rattle.ut_value.specs.declared.value.Value.{Value}
use Rattle.ut_value.specs.declared.value.Value.TheVariants as values
use Rattle.ut_value.specs.declared.value.Column.{Column}

-- the number that decimal digits spell behind a number
abbrev pub number_from : ℕ → List ℕ → ℕ
number_from n [] = n
number_from n (d ∷ digits) = number_from (10 * n + (d - 48)) digits

-- a number in decimal digits without leading zeros, of at most 19 digits: with 20 it is past every range of the script
abbrev pub number_of : List ℕ → Option ℕ
number_of [] = None
number_of (d ∷ digits) =
    if list_all is_digit (d ∷ digits) && nat_lt (length digits) 19 && not (nat_eq d 48 && nat_lt 0 (length digits))
    then Some (number_from 0 (d ∷ digits))
    else None

-- a number that lies in a range
abbrev pub within : ℕ → ℕ → Option ℕ → Option ℕ
within least most None = None
within least most (Some n) = if nat_le least n && nat_le n most then Some n else None

-- an INT: a number with or without a minus sign, in the range of an i64; `-0` is none
unfoldable pub int_of : List ℕ → Option ℤ
int_of [] = None
int_of (b ∷ bytes) =
    if nat_eq b 45 then option_map (λ n. negsuc (n - 1)) (within 1 9223372036854775808 (number_of bytes))
    else option_map pos (within 0 9223372036854775807 (number_of (b ∷ bytes)))

-- the text of a literal behind its first quote; the flag says that a quote came last, which ends the literal or is the first of two
abbrev pub unquoted : Bool → List ℕ → Option (List ℕ)
unquoted false [] = None
unquoted true [] = Some []
unquoted false (b ∷ bytes) = if nat_eq b 39 then unquoted true bytes else option_map (λ text. b ∷ text) (unquoted false bytes)
unquoted true (b ∷ bytes) = if nat_eq b 39 then option_map (λ text. b ∷ text) (unquoted false bytes) else None

-- a text that keeps the rule of texts
abbrev pub checked_text : List ℕ → Option (List ℕ)
checked_text text = if is_text text then Some text else None

-- the text of a literal whose first quote was read
unfoldable pub text_of : List ℕ → Option (List ℕ)
text_of bytes = option_and_then checked_text (unquoted false bytes)

-- the value of a literal
unfoldable pub value_of : List ℕ → Option Value
value_of [] = None
value_of (b ∷ bytes) = if nat_eq b 39 then option_map values.Text (text_of bytes) else option_map values.Int (int_of (b ∷ bytes))

-- a name
abbrev pub name_of : List ℕ → Option (List ℕ)
name_of word = if is_name word then Some word else None

-- how many bytes stand before the first colon
abbrev pub colon_at : List ℕ → ℕ
colon_at [] = 0
colon_at (b ∷ bytes) = if nat_eq b 58 then 0 else suc (colon_at bytes)

-- a kind behind a colon
abbrev pub kind_of : List ℕ → Option Kind
kind_of word =
    if same_bytes word (codes ":int") then Some kinds.Int
    else if same_bytes word (codes ":text") then Some kinds.Text
    else None

-- a name, and a kind behind a colon
abbrev pub column_with : List ℕ → Option Kind → Option Column
column_with name None = None
column_with name (Some kind) = if is_name name then Some (record { name = name; kind = kind }) else None

-- a column of a new table
unfoldable pub column_of : List ℕ → Option Column
column_of word = column_with (take (colon_at word) word) (kind_of (drop (colon_at word) word))
