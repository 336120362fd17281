-- The text of a literal that ends at its first quote.
use Rattle.std.proofs.Common.{ℕ, ◌≡◌, ◌≤◌, Bool, true, false, cond, not, List, [], ◌∷◌, ◌++◌, length, Option, Some, refl, ap, ◌∙◌, le-leb}
use Rattle.std.specs.Prelude.{nat_eq}
use Rattle.std.specs.Option.{option_map}
use Rattle.std.specs.List.{list_all}
use Rattle.ut_value.specs.Text.{is_text, is_text_byte}
use Rattle.ut_plain.proofs.BoolLemmas.{and_left, and_right, and_both}
use Rattle.ut_script.specs.Literals.{unquoted, text_of}
use Rattle.ut_script.specs.Unquoted.{is_plain}
use Rattle.ut_script.proofs.LiteralLemmas.{text_of-is}

flipped : (t : Bool) → not t ≡ true → t ≡ false
flipped true h = cc
flipped false h = refl

-- bytes that stand for themselves are bytes of a text
each_text : (bytes : List ℕ) → list_all is_plain bytes ≡ true → list_all is_text_byte bytes ≡ true
each_text [] h = refl
each_text (b ∷ bytes) h = and_both _ _ (and_left (is_text_byte b) _ (and_left (is_plain b) _ h)) (each_text bytes (and_right (is_plain b) _ h))

-- what stands before the quote is the text
to_quote : (bytes : List ℕ) → list_all is_plain bytes ≡ true → unquoted false (bytes ++ 39 ∷ []) ≡ Some bytes
to_quote [] h = refl
to_quote (b ∷ bytes) h =
    ap (λ (t : Bool). cond t (unquoted true (bytes ++ 39 ∷ [])) (option_map (λ x. b ∷ x) (unquoted false (bytes ++ 39 ∷ []))))
    (flipped (nat_eq b 39) (and_right (is_text_byte b) _ (and_left (is_plain b) _ h)))
    ∙ ap (λ (o : Option (List ℕ)). option_map (λ x. b ∷ x) o) (to_quote bytes (and_right (is_plain b) _ h))

-- so many of them are a text
pub plain_rule : (text : List ℕ) → list_all is_plain text ≡ true → length text ≤ 255 → is_text text ≡ true
plain_rule text h short = and_both _ _ (le-leb (length text) 255 short) (each_text text h)

-- a literal that ends at its first quote
pub plain_literal : (bytes text : List ℕ) → bytes ≡ text ++ 39 ∷ [] → list_all is_plain text ≡ true → length text ≤ 255 → text_of bytes ≡ Some text
plain_literal bytes text e h short = text_of-is bytes text (plain_rule text h short) (ap (λ (xs : List ℕ). unquoted false xs) e ∙ to_quote text h)

pub ruleset plain = (plain_rule, plain_literal)
