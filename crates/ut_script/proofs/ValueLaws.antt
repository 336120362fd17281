-- A word says a value exactly where it is the text of that value.
use Rattle.std.proofs.Common.{ℕ, suc, ◌≡◌, ◌-◌, ◌^◌, ◌<◌, ◌≤◌, Bool, true, false, cond, ◌&&◌, List, [], ◌∷◌, ◌++◌, refl, ap, ◌∙◌, sym, subst, arith, Option, None, Some, ℤ, pos, negsuc}
use Rattle.std.proofs.lemmas.Grind.{common_steps}
use Rattle.std.specs.Prelude.{nat_eq, nat_le, decimal, unwrap_or, option_and_then}
use Rattle.std.specs.Option.{option_map}
use Rattle.std.specs.Fmt.{signed_decimal}
use Rattle.ut_value.specs.Text.{is_text}
use Rattle.ut_value.specs.declared.value.Value.{Value}
use Rattle.ut_value.specs.declared.value.Value.TheVariants.{Int, Text}
use Rattle.ut_script.specs.Literals.{number_of, within, int_of, unquoted, checked_text, text_of, value_of}
use Rattle.ut_reply.specs.Texts.{quoted, value_text}
use Rattle.ut_script.specs.Spellings.{FitsValue, SpellsValues}
use Rattle.ut_script.proofs.NumberLaws.{number_of-decimal, number_of-is, first_digit}

quoted_byte : (t : Bool) (b : ℕ) (text : List ℕ) → nat_eq b 39 ≡ t → unquoted false (quoted text ++ 39 ∷ []) ≡ Some text → unquoted false (cond t (39 ∷ 39 ∷ quoted text) (b ∷ quoted text) ++ 39 ∷ []) ≡ Some (b ∷ text)
quoted_byte true b text e more = let is : 39 ≡ b = grind (arith, common_steps, e) in ap (λ (o : Option (List ℕ)). option_map (λ x. 39 ∷ x) o) more ∙ ap (λ (n : ℕ). Some (n ∷ text)) is
quoted_byte false b text e more =
    ap (λ (t : Bool). cond t (unquoted true (quoted text ++ 39 ∷ [])) (option_map (λ x. b ∷ x) (unquoted false (quoted text ++ 39 ∷ [])))) e
    ∙ ap (λ (o : Option (List ℕ)). option_map (λ x. b ∷ x) o) more

-- a text in quotes is read as that text
unquoted-quoted : (text : List ℕ) → unquoted false (quoted text ++ 39 ∷ []) ≡ Some text
unquoted-quoted [] = refl
unquoted-quoted (b ∷ text) = quoted_byte (nat_eq b 39) b text refl (unquoted-quoted text)

read_text : (text : List ℕ) → is_text text ≡ true → value_of (value_text (Text text)) ≡ Some (Text text)
unfolding value_of text_of
read_text text h =
    ap (λ (o : Option (List ℕ)). option_map Text (option_and_then checked_text o)) (unquoted-quoted text)
    ∙ ap (λ (t : Bool). option_map Text (cond t (Some text) None)) h

in_range : (least most n : ℕ) → least ≤ n → n ≤ most → within least most (Some n) ≡ Some n
in_range least most n h k =
    let low : nat_le least n ≡ true = grind (arith, common_steps) in
    let high : nat_le n most ≡ true = grind (arith, common_steps) in
    ap (λ (t : Bool). cond (t && nat_le n most) (Some n) None) low ∙ ap (λ (t : Bool). cond t (Some n) None) high

read_digits : (ds : List ℕ) (n : ℕ) → number_of ds ≡ Some n → n < 2 ^ 63 → value_of ds ≡ Some (Int (pos n))
unfolding value_of int_of
read_digits [] n e h = cc
read_digits (d ∷ ds) n e h =
    let first = first_digit d ds n e in
    ap (λ (t : Bool). cond t (option_map Text (text_of ds)) (option_map Int (int_of (d ∷ ds)))) first.0
    ∙ ap (λ (t : Bool). option_map Int (cond t (option_map (λ m. negsuc (m - 1)) (within 1 9223372036854775808 (number_of ds))) (option_map pos (within 0 9223372036854775807 (number_of (d ∷ ds)))))) first.1
    ∙ ap (λ (o : Option ℕ). option_map Int (option_map pos (within 0 9223372036854775807 o))) e
    ∙ ap (λ (o : Option ℕ). option_map Int (option_map pos o)) (in_range 0 9223372036854775807 n (omega arith) (omega arith))

read_back : (v : Value) → FitsValue v → value_of (value_text v) ≡ Some v
unfolding value_of int_of
read_back (Text text) h = read_text text h
read_back (Int (pos n)) h = read_digits (decimal n) n (number_of-decimal n (omega arith)) h
read_back (Int (negsuc n)) h =
    let less : suc n - 1 ≡ n = omega arith in
    ap (λ (o : Option ℕ). option_map Int (option_map (λ m. negsuc (m - 1)) (within 1 9223372036854775808 o))) (number_of-decimal (suc n) (omega arith))
    ∙ ap (λ (o : Option ℕ). option_map Int (option_map (λ m. negsuc (m - 1)) o)) (in_range 1 9223372036854775808 (suc n) (omega arith) (omega arith))
    ∙ ap (λ (m : ℕ). Some (Int (negsuc m))) less

-- the bytes of a literal from a place on, where the flag says that a quote came last
abbrev IsQuoted : Bool → List ℕ → List ℕ → Type 0
IsQuoted false bytes text = bytes ≡ quoted text ++ 39 ∷ []
IsQuoted true bytes text = 39 ∷ bytes ≡ quoted text ++ 39 ∷ []

plain_byte : (b : ℕ) (bytes : List ℕ) (o : Option (List ℕ)) (text : List ℕ) → nat_eq b 39 ≡ false → ((t : List ℕ) → o ≡ Some t → bytes ≡ quoted t ++ 39 ∷ []) → option_map (λ t. b ∷ t) o ≡ Some text → b ∷ bytes ≡ quoted text ++ 39 ∷ []
plain_byte b bytes None text h more e = cc
plain_byte b bytes (Some t) text h more e =
    let is : b ∷ t ≡ text = ap (λ (o : Option (List ℕ)). unwrap_or o text) e in
    ap (λ (xs : List ℕ). b ∷ xs) (more t refl) ∙ ap (λ (s : Bool). cond s (39 ∷ 39 ∷ quoted t) (b ∷ quoted t) ++ 39 ∷ []) (sym h) ∙ ap (λ (xs : List ℕ). quoted xs ++ 39 ∷ []) is

quote_byte : (bytes : List ℕ) (o : Option (List ℕ)) (text : List ℕ) → ((t : List ℕ) → o ≡ Some t → bytes ≡ quoted t ++ 39 ∷ []) → option_map (λ t. 39 ∷ t) o ≡ Some text → 39 ∷ 39 ∷ bytes ≡ quoted text ++ 39 ∷ []
quote_byte bytes None text more e = cc
quote_byte bytes (Some t) text more e =
    let is : 39 ∷ t ≡ text = ap (λ (o : Option (List ℕ)). unwrap_or o text) e in
    ap (λ (xs : List ℕ). 39 ∷ 39 ∷ xs) (more t refl) ∙ ap (λ (xs : List ℕ). quoted xs ++ 39 ∷ []) is

open_byte : (t : Bool) (b : ℕ) (bytes text : List ℕ) → nat_eq b 39 ≡ t → ((x : List ℕ) → unquoted true bytes ≡ Some x → 39 ∷ bytes ≡ quoted x ++ 39 ∷ []) → ((x : List ℕ) → unquoted false bytes ≡ Some x → bytes ≡ quoted x ++ 39 ∷ [])
    → cond t (unquoted true bytes) (option_map (λ x. b ∷ x) (unquoted false bytes)) ≡ Some text → b ∷ bytes ≡ quoted text ++ 39 ∷ []
open_byte true b bytes text is last more e = let quote : b ≡ 39 = grind (arith, common_steps, is) in ap (λ (n : ℕ). n ∷ bytes) quote ∙ last text e
open_byte false b bytes text is last more e = plain_byte b bytes (unquoted false bytes) text is more e

last_byte : (t : Bool) (b : ℕ) (bytes text : List ℕ) → nat_eq b 39 ≡ t → ((x : List ℕ) → unquoted false bytes ≡ Some x → bytes ≡ quoted x ++ 39 ∷ [])
    → cond t (option_map (λ x. b ∷ x) (unquoted false bytes)) None ≡ Some text → 39 ∷ b ∷ bytes ≡ quoted text ++ 39 ∷ []
last_byte false b bytes text is more e = cc
last_byte true b bytes text is more e =
    let quote : b ≡ 39 = grind (arith, common_steps, is) in
    ap (λ (n : ℕ). 39 ∷ n ∷ bytes) quote
    ∙ quote_byte bytes (unquoted false bytes) text more (ap (λ (n : ℕ). option_map (λ x. n ∷ x) (unquoted false bytes)) (sym quote) ∙ e)

-- what is read as a text is that text in quotes
quoted-unquoted : (pending : Bool) (bytes text : List ℕ) → unquoted pending bytes ≡ Some text → IsQuoted pending bytes text
quoted-unquoted false [] text e = cc
quoted-unquoted true [] text e = ap (λ (o : Option (List ℕ)). quoted (unwrap_or o text) ++ 39 ∷ []) e
quoted-unquoted false (b ∷ bytes) text e = open_byte (nat_eq b 39) b bytes text refl (λ x f. quoted-unquoted true bytes x f) (λ x f. quoted-unquoted false bytes x f) e
quoted-unquoted true (b ∷ bytes) text e = last_byte (nat_eq b 39) b bytes text refl (λ x f. quoted-unquoted false bytes x f) e

-- a value from its part
text_value : (o : Option (List ℕ)) (v : Value) → option_map Text o ≡ Some v → (t : List ℕ) × ((o ≡ Some t) × (v ≡ Text t))
text_value None v e = cc
text_value (Some t) v e = (t, (refl, sym (ap (λ (o : Option Value). unwrap_or o v) e)))

int_value : (o : Option ℤ) (v : Value) → option_map Int o ≡ Some v → (z : ℤ) × ((o ≡ Some z) × (v ≡ Int z))
int_value None v e = cc
int_value (Some z) v e = (z, (refl, sym (ap (λ (o : Option Value). unwrap_or o v) e)))

checked : (o : Option (List ℕ)) (text : List ℕ) → option_and_then checked_text o ≡ Some text → (o ≡ Some text) × (is_text text ≡ true)
checked None text e = cc
checked (Some t) text e = by_test (is_text t) refl e
  where
    by_test : (s : Bool) → is_text t ≡ s → cond s (Some t) None ≡ Some text → (Some t ≡ Some text) × (is_text text ≡ true)
    by_test false is e = cc
    by_test true is e = (e, ap is_text (sym (ap (λ (o : Option (List ℕ)). unwrap_or o text) e)) ∙ is)

ranged : (least most n : ℕ) (o : Option ℕ) → within least most o ≡ Some n → (o ≡ Some n) × ((least ≤ n) × (n ≤ most))
ranged least most n None e = cc
ranged least most n (Some m) e = by_test (nat_le least m) (nat_le m most) refl refl e
  where
    by_test : (s t : Bool) → nat_le least m ≡ s → nat_le m most ≡ t → cond (s && t) (Some m) None ≡ Some n → (Some m ≡ Some n) × ((least ≤ n) × (n ≤ most))
    by_test true true low high e =
        let is : m ≡ n = ap (λ (o : Option ℕ). unwrap_or o n) e in
        let a : least ≤ m = grind (arith, common_steps, low) in
        let b : m ≤ most = grind (arith, common_steps, high) in
        (e, (subst (λ (k : ℕ). least ≤ k) is a, subst (λ (k : ℕ). k ≤ most) is b))
    by_test true false low high e = cc
    by_test false t low high e = cc

mapped : (f : ℕ → ℤ) (o : Option ℕ) (z : ℤ) → option_map f o ≡ Some z → (n : ℕ) × ((o ≡ Some n) × (z ≡ f n))
mapped f None z e = cc
mapped f (Some n) z e = (n, (refl, sym (ap (λ (o : Option ℤ). unwrap_or o z) e)))

int_spelled : (word : List ℕ) (z : ℤ) → int_of word ≡ Some z → (word ≡ signed_decimal z) × FitsValue (Int z)
unfolding int_of
int_spelled [] z e = cc
int_spelled (b ∷ bytes) z e = by_test (nat_eq b 45) refl e
  where
    by_test : (t : Bool) → nat_eq b 45 ≡ t → cond t (option_map (λ n. negsuc (n - 1)) (within 1 9223372036854775808 (number_of bytes))) (option_map pos (within 0 9223372036854775807 (number_of (b ∷ bytes)))) ≡ Some z → (b ∷ bytes ≡ signed_decimal z) × FitsValue (Int z)
    by_test true is e =
        let minus : b ≡ 45 = grind (arith, common_steps, is) in
        let m = mapped (λ n. negsuc (n - 1)) (within 1 9223372036854775808 (number_of bytes)) z e in
        let r = ranged 1 9223372036854775808 m.0 (number_of bytes) m.1.0 in
        let d = number_of-is bytes m.0 r.0 in
        let next : m.0 ≡ suc (m.0 - 1) = omega (arith, r.1.0) in
        let fits : m.0 - 1 < 2 ^ 63 = omega (arith, r.1.0, r.1.1) in
        subst (λ (y : ℤ). (b ∷ bytes ≡ signed_decimal y) × FitsValue (Int y)) (sym m.1.1) (ap (λ (n : ℕ). n ∷ bytes) minus ∙ ap (λ (xs : List ℕ). 45 ∷ xs) (d.0 ∙ ap decimal next), fits)
    by_test false is e =
        let m = mapped pos (within 0 9223372036854775807 (number_of (b ∷ bytes))) z e in
        let r = ranged 0 9223372036854775807 m.0 (number_of (b ∷ bytes)) m.1.0 in
        let d = number_of-is (b ∷ bytes) m.0 r.0 in
        let fits : m.0 < 2 ^ 63 = omega (arith, r.1.1) in
        subst (λ (y : ℤ). (b ∷ bytes ≡ signed_decimal y) × FitsValue (Int y)) (sym m.1.1) (d.0, fits)

spelled : (word : List ℕ) (v : Value) → value_of word ≡ Some v → (word ≡ value_text v) × FitsValue v
unfolding value_of text_of
spelled [] v e = cc
spelled (b ∷ bytes) v e = by_test (nat_eq b 39) refl e
  where
    by_test : (t : Bool) → nat_eq b 39 ≡ t → cond t (option_map Text (text_of bytes)) (option_map Int (int_of (b ∷ bytes))) ≡ Some v → (b ∷ bytes ≡ value_text v) × FitsValue v
    by_test true is e =
        let quote : b ≡ 39 = grind (arith, common_steps, is) in
        let p = text_value (text_of bytes) v e in
        let c = checked (unquoted false bytes) p.0 p.1.0 in
        let bytes_are = quoted-unquoted false bytes p.0 c.0 in
        subst (λ (y : Value). (b ∷ bytes ≡ value_text y) × FitsValue y) (sym p.1.1) (ap (λ (n : ℕ). n ∷ bytes) quote ∙ ap (λ (xs : List ℕ). 39 ∷ xs) bytes_are, c.1)
    by_test false is e =
        let p = int_value (int_of (b ∷ bytes)) v e in
        let r = int_spelled (b ∷ bytes) p.0 p.1.0 in
        subst (λ (y : Value). (b ∷ bytes ≡ value_text y) × FitsValue y) (sym p.1.1) r

pub spells_values : SpellsValues
spells_values = record { read_back = read_back; spelled = spelled }
