-- One more byte of a text literal, at the test and at the reading.
use Rattle.std.proofs.Common.{ℕ, ◌≡◌, ◌+◌, ◌<◌, Bool, true, false, cond, ◌&&◌, List, [], ◌∷◌, ◌++◌, length, drop, get_or, Option, None, Some, refl, ap, ◌∙◌, sym, append_assoc, append-nil, arith, add-one, drop-cons}
use Rattle.std.proofs.lemmas.Grind.{common_steps}
use Rattle.std.specs.Prelude.{nat_eq, nat_le, is_some, unwrap_or, option_and_then}
use Rattle.std.specs.Option.{option_map}
use Rattle.std.specs.List.{list_all}
use Rattle.ut_value.specs.Text.{is_text, is_text_byte}
use Rattle.ut_script.specs.Literals.{unquoted, checked_text, text_of}

-- whether a text with so many bytes in front of it is one
abbrev pub fits : ℕ → List ℕ → Bool
fits n text = nat_le (n + length text) 255 && list_all is_text_byte text

pub next_byte : (bytes : List ℕ) (i : ℕ) → i < length bytes → drop i bytes ≡ get_or bytes i 0 ∷ drop (i + 1) bytes
next_byte bytes i h = rw (add-one, drop-cons bytes i 0) refl

checked : (t : Bool) (text : List ℕ) → is_some (cond t (Some text) None) ≡ t
checked true text = refl
checked false text = refl

tested : (o : Option (List ℕ)) → is_some (option_and_then checked_text o) ≡ unwrap_or (option_map is_text o) false
tested None = refl
tested (Some text) = checked (is_text text) text

-- a literal is a text where its bytes pass the test
pub is_text-of : (bytes : List ℕ) → is_some (text_of bytes) ≡ unwrap_or (option_map is_text (unquoted false bytes)) false
unfolding text_of
is_text-of bytes = tested (unquoted false bytes)

fits_more : (n b : ℕ) (text : List ℕ) → is_text_byte b ≡ true → fits (n + 1) text ≡ fits n (b ∷ text)
fits_more n b text h = grind (arith, common_steps, h)

fits_all : (n b : ℕ) (o : Option (List ℕ)) → is_text_byte b ≡ true → option_map (fits (n + 1)) o ≡ option_map (fits n) (option_map (λ text. b ∷ text) o)
fits_all n b None h = refl
fits_all n b (Some text) h = ap (λ (t : Bool). Some t) (fits_more n b text h)

and_false : (t u : Bool) → (t && (false && u)) ≡ false
and_false true u = refl
and_false false u = refl

fits_not : (n b : ℕ) (o : Option (List ℕ)) → is_text_byte b ≡ false → unwrap_or (option_map (fits n) (option_map (λ text. b ∷ text) o)) false ≡ false
fits_not n b None h = refl
fits_not n b (Some text) h = ap (λ (t : Bool). nat_le (n + length (b ∷ text)) 255 && (t && list_all is_text_byte text)) h ∙ and_false (nat_le (n + length (b ∷ text)) 255) (list_all is_text_byte text)

-- a byte that is no quote
pub fits-plain : (n b : ℕ) (rest : List ℕ) (pending : Bool) → pending ≡ false → nat_eq b 39 ≡ false → is_text_byte b ≡ true
    → option_map (fits (n + 1)) (unquoted pending rest) ≡ option_map (fits n) (unquoted pending (b ∷ rest))
fits-plain n b rest true p h text = cc
fits-plain n b rest false p h text =
    fits_all n b (unquoted false rest) text ∙ ap (λ (t : Bool). option_map (fits n) (cond t (unquoted true rest) (option_map (λ x. b ∷ x) (unquoted false rest)))) (sym h)

-- the second of two quotes
pub fits-doubled : (n b : ℕ) (rest : List ℕ) (pending : Bool) → pending ≡ true → b ≡ 39
    → option_map (fits (n + 1)) (unquoted false rest) ≡ option_map (fits n) (unquoted pending (b ∷ rest))
fits-doubled n b rest false p h = cc
fits-doubled n b rest true p h = fits_all n 39 (unquoted false rest) refl ∙ ap (λ (m : ℕ). option_map (fits n) (unquoted true (m ∷ rest))) (sym h)

-- a byte behind the last quote
pub fits-behind : (n b : ℕ) (rest : List ℕ) (pending : Bool) → pending ≡ true → nat_eq b 39 ≡ false
    → unwrap_or (option_map (fits n) (unquoted pending (b ∷ rest))) false ≡ false
fits-behind n b rest false p h = cc
fits-behind n b rest true p h = ap (λ (t : Bool). unwrap_or (option_map (fits n) (cond t (option_map (λ x. b ∷ x) (unquoted false rest)) None)) false) h

-- a byte that no text has
pub fits-never : (n b : ℕ) (rest : List ℕ) (pending : Bool) → pending ≡ false → nat_eq b 39 ≡ false → is_text_byte b ≡ false
    → unwrap_or (option_map (fits n) (unquoted pending (b ∷ rest))) false ≡ false
fits-never n b rest true p h text = cc
fits-never n b rest false p h text =
    ap (λ (t : Bool). unwrap_or (option_map (fits n) (cond t (unquoted true rest) (option_map (λ x. b ∷ x) (unquoted false rest)))) false) h ∙ fits_not n b (unquoted false rest) text

-- the end of the bytes
pub fits-end : (n : ℕ) (pending : Bool) → (pending && nat_le n 255) ≡ unwrap_or (option_map (fits n) (unquoted pending [])) false
fits-end n true = grind (arith, common_steps)
fits-end n false = refl

push_moved : (front : List ℕ) (b : ℕ) (o : Option (List ℕ)) → option_map (λ t. (front ++ b ∷ []) ++ t) o ≡ option_map (λ t. front ++ t) (option_map (λ t. b ∷ t) o)
push_moved front b None = refl
push_moved front b (Some t) = ap (λ l. Some l) (append_assoc front (b ∷ []) t)

-- what is left to read, at its next byte
pub unquoted-next : (front bytes : List ℕ) (i : ℕ) (pending : Bool) (whole : Option (List ℕ)) → i < length bytes → option_map (λ t. front ++ t) (unquoted pending (drop i bytes)) ≡ whole
    → option_map (λ t. front ++ t) (unquoted pending (get_or bytes i 0 ∷ drop (i + 1) bytes)) ≡ whole
unquoted-next front bytes i pending whole lt h = ap (λ (xs : List ℕ). option_map (λ t. front ++ t) (unquoted pending xs)) (sym (next_byte bytes i lt)) ∙ h

-- a byte that is no quote stands in the text
pub unquoted-plain : (front : List ℕ) (b : ℕ) (rest : List ℕ) (pending : Bool) → nat_eq b 39 ≡ false → is_some (option_map (λ t. front ++ t) (unquoted pending (b ∷ rest))) ≡ true
    → option_map (λ t. (front ++ b ∷ []) ++ t) (unquoted pending rest) ≡ option_map (λ t. front ++ t) (unquoted pending (b ∷ rest))
unquoted-plain front b rest true h some =
    let none = ap (λ (t : Bool). is_some (option_map (λ x. front ++ x) (cond t (option_map (λ x. b ∷ x) (unquoted false rest)) None))) h in
    cc
unquoted-plain front b rest false h some = push_moved front b (unquoted false rest) ∙ ap (λ (t : Bool). option_map (λ x. front ++ x) (cond t (unquoted true rest) (option_map (λ x. b ∷ x) (unquoted false rest)))) (sym h)

-- the second of two quotes
pub unquoted-doubled : (front : List ℕ) (b : ℕ) (rest : List ℕ) (pending : Bool) → pending ≡ true → b ≡ 39
    → option_map (λ t. (front ++ 39 ∷ []) ++ t) (unquoted false rest) ≡ option_map (λ t. front ++ t) (unquoted pending (b ∷ rest))
unquoted-doubled front b rest false p h = cc
unquoted-doubled front b rest true p h = push_moved front 39 (unquoted false rest) ∙ ap (λ (n : ℕ). option_map (λ x. front ++ x) (unquoted true (n ∷ rest))) (sym h)

-- the first quote of two, or the last
pub unquoted-opened : (front : List ℕ) (b : ℕ) (rest : List ℕ) (pending : Bool) → pending ≡ false → b ≡ 39
    → option_map (λ t. front ++ t) (unquoted true rest) ≡ option_map (λ t. front ++ t) (unquoted pending (b ∷ rest))
unquoted-opened front b rest true p h = cc
unquoted-opened front b rest false p h = ap (λ (n : ℕ). option_map (λ x. front ++ x) (unquoted false (n ∷ rest))) (sym h)

-- a text literal has bytes
pub unquoted-text : (bytes : List ℕ) → is_some (text_of bytes) ≡ true → is_some (unquoted false bytes) ≡ true
unfolding text_of
unquoted-text bytes h = from_text (unquoted false bytes) h
  where
    from_text : (o : Option (List ℕ)) → is_some (option_and_then checked_text o) ≡ true → is_some o ≡ true
    from_text None h = h
    from_text (Some text) h = refl

-- the text of a literal keeps the rule
pub unquoted-rule : (bytes text : List ℕ) → is_some (text_of bytes) ≡ true → unquoted false bytes ≡ Some text → is_text text ≡ true
unquoted-rule bytes text h e = sym (ap (λ (o : Option (List ℕ)). unwrap_or (option_map is_text o) false) e) ∙ sym (is_text-of bytes) ∙ h

-- the text of a literal
pub text_of-is : (bytes text : List ℕ) → is_text text ≡ true → unquoted false bytes ≡ Some text → text_of bytes ≡ Some text
unfolding text_of
text_of-is bytes text h e = ap (λ (o : Option (List ℕ)). option_and_then checked_text o) e ∙ ap (λ (t : Bool). cond t (Some text) None) h

-- what the test of a literal found at the end of the bytes
pub fits-done : (n : ℕ) (pending : Bool) (rest bytes : List ℕ) → rest ≡ [] → option_map (fits n) (unquoted pending rest) ≡ option_map is_text (unquoted false bytes) → (pending && nat_le n 255) ≡ is_some (text_of bytes)
fits-done n pending rest bytes e h = fits-end n pending ∙ ap (λ (xs : List ℕ). unwrap_or (option_map (fits n) (unquoted pending xs)) false) (sym e) ∙ ap (λ (o : Option Bool). unwrap_or o false) h ∙ sym (is_text-of bytes)

-- what it found before
pub fits-not : (found whole : Option Bool) (bytes : List ℕ) → unwrap_or found false ≡ false → found ≡ whole → whole ≡ option_map is_text (unquoted false bytes) → false ≡ is_some (text_of bytes)
fits-not found whole bytes h e f = sym h ∙ ap (λ (o : Option Bool). unwrap_or o false) (e ∙ f) ∙ sym (is_text-of bytes)
