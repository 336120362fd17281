-- Text literals that end at their first quote.
use Rattle.std.specs.Prelude.{ℕ, Bool, not, ◌&&◌, nat_eq}
use Rattle.ut_value.specs.Text.{is_text_byte}

-- whether a byte of a literal stands for itself
abbrev pub is_plain : ℕ → Bool
is_plain b = is_text_byte b && not (nat_eq b 39)
