-- The one spelling of a value, and that it is the only one.
use Rattle.std.specs.Prelude.{ℕ, ◌≡◌, ◌<◌, ◌^◌, pos, negsuc, List, true, Some}
use Rattle.ut_value.specs.Text.{is_text}
use Rattle.ut_value.specs.declared.value.Value.{Value}
use Rattle.ut_value.specs.declared.value.Value.TheVariants.{Int, Text}
use Rattle.ut_script.specs.Literals.{value_of}
use Rattle.ut_reply.specs.Texts.{value_text}

-- an INT in the range of an i64, or a text that keeps the rule of texts
abbrev pub FitsValue : Value → Type 0
FitsValue (Int (pos n)) = n < 2 ^ 63
FitsValue (Int (negsuc n)) = n < 2 ^ 63
FitsValue (Text text) = is_text text ≡ true

-- a word says a value exactly where it is the text of that value
pub record SpellsValues : Type 0 where
  pub read_back : (v : Value) → FitsValue v → value_of (value_text v) ≡ Some v
  pub spelled : (word : List ℕ) (v : Value) → value_of word ≡ Some v → (word ≡ value_text v) × FitsValue v
