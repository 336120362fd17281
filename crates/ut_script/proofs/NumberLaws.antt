-- A word says a number exactly where it is the decimal text of that number.
use Rattle.std.proofs.Common.{ℕ, zero, suc, ◌≡◌, ◌^◌, ◌<◌, ◌≤◌, Bool, true, false, cond, not, ◌&&◌, List, [], ◌∷◌, length, get_or, refl, ap, ◌∙◌, sym, subst, arith, rules, Option, None, Some}
use Rattle.std.proofs.lemmas.Grind.{common_steps}
use Rattle.std.proofs.lemmas.Str.Parse.{IsNumeralModel, numerals_by_fold, digits_value_short}
use Rattle.std.proofs.lemmas.Fmt.{digits_decimal, digits_value-decimal, decimal-digits_value, length-decimal-le, first_decimal, decimal_digit, decimal_nonempty}
use Rattle.std.specs.Prelude.{nat_eq, nat_lt, decimal, unwrap_or}
use Rattle.std.specs.List.{list_all}
use Rattle.ut_value.specs.Text.{is_digit}
use Rattle.ut_script.specs.Literals.{number_from, number_of}

-- digits, and the number that they spell
own : IsNumeralModel (λ ds. list_all is_digit ds ≡ true) (number_from 0)
own = numerals_by_fold _ (search rules) number_from (search rules)

-- whether a word of this length with this first byte has a leading zero
leads : ℕ → ℕ → Bool
leads d n = nat_eq d 48 && nat_lt 0 n

taken : (d : ℕ) (ds : List ℕ) → list_all is_digit (d ∷ ds) ≡ true → nat_lt (length ds) 19 ≡ true → leads d (length ds) ≡ false → number_of (d ∷ ds) ≡ Some (number_from 0 (d ∷ ds))
unfolding leads
taken d ds h few lead =
    ap (λ (t : Bool). cond (t && nat_lt (length ds) 19 && not (nat_eq d 48 && nat_lt 0 (length ds))) (Some (number_from 0 (d ∷ ds))) None) h
    ∙ ap (λ (t : Bool). cond (true && t && not (nat_eq d 48 && nat_lt 0 (length ds))) (Some (number_from 0 (d ∷ ds))) None) few
    ∙ ap (λ (t : Bool). cond (true && true && not t) (Some (number_from 0 (d ∷ ds))) None) lead

no_lead : (d n : ℕ) → (d ≡ 48 → suc n ≡ 1) → leads d n ≡ false
unfolding leads
no_lead d n h = by_test (nat_eq d 48) refl
  where
    by_test : (t : Bool) → nat_eq d 48 ≡ t → (t && nat_lt 0 n) ≡ false
    by_test false e = refl
    by_test true e = let is : d ≡ 48 = grind (arith, common_steps, e) in let one = h is in grind (arith, common_steps)

number_by : (ds : List ℕ) (n : ℕ) → 0 < length ds → list_all is_digit ds ≡ true → length ds ≤ 19 → (get_or ds 0 0 ≡ 48 → length ds ≡ 1) → number_from 0 ds ≡ n → number_of ds ≡ Some n
number_by [] n some digits few lead e = absurd (omega arith)
number_by (d ∷ ds) n some digits few lead e =
    let short : nat_lt (length ds) 19 ≡ true = grind (arith, common_steps) in
    taken d ds digits short (no_lead d (length ds) lead) ∙ ap (λ (m : ℕ). Some m) e

first_of_decimal : (n : ℕ) → n < 2 ^ 64 → get_or (decimal n) 0 0 ≡ 48 → length (decimal n) ≡ 1
first_of_decimal zero h e = ap (λ (ds : List ℕ). length ds) (decimal_digit 0 (omega arith))
first_of_decimal (suc n) h e = absurd (let high = first_decimal (suc n) (omega arith) h in omega (arith, high, e))

-- the decimal text of a number is read as that number
pub number_of-decimal : (n : ℕ) → n < 10 ^ 19 → number_of (decimal n) ≡ Some n
number_of-decimal n h =
    let fits : n < 2 ^ 64 = omega arith in number_by (decimal n) n (decimal_nonempty n fits) (digits_decimal own n fits) (length-decimal-le 19 n (omega arith) h fits) (first_of_decimal n fits) (digits_value-decimal own n fits)

-- what a word that says a number is made of
record IsNumber (ds : List ℕ) (n : ℕ) : Type 0 where
  pub digits : list_all is_digit ds ≡ true
  pub few : length ds ≤ 19
  pub lead : get_or ds 0 0 ≡ 48 → length ds ≡ 1
  pub value : number_from 0 ds ≡ n

parts : (d : ℕ) (ds : List ℕ) (n : ℕ) (t u v : Bool) → list_all is_digit (d ∷ ds) ≡ t → nat_lt (length ds) 19 ≡ u → (nat_eq d 48 && nat_lt 0 (length ds)) ≡ v → cond (t && u && not v) (Some (number_from 0 (d ∷ ds))) None ≡ Some n → IsNumber (d ∷ ds) n
parts d ds n true true false a b c e =
    record {
      digits = a;
      few = grind (arith, common_steps, b);
      lead = λ is. grind (arith, common_steps, c, is);
      value = ap (λ (o : Option ℕ). unwrap_or o n) e;
    }
parts d ds n true true true a b c e = cc
parts d ds n true false v a b c e = cc
parts d ds n false u v a b c e = cc

number_parts : (ds : List ℕ) (n : ℕ) → number_of ds ≡ Some n → IsNumber ds n
number_parts [] n e = cc
number_parts (d ∷ ds) n e = parts d ds n (list_all is_digit (d ∷ ds)) (nat_lt (length ds) 19) (nat_eq d 48 && nat_lt 0 (length ds)) refl refl refl e

some_digits : (ds : List ℕ) (n : ℕ) → number_of ds ≡ Some n → 0 < length ds
some_digits [] n e = cc
some_digits (d ∷ ds) n e = omega arith

-- a word that is read as a number is its decimal text
pub number_of-is : (ds : List ℕ) (n : ℕ) → number_of ds ≡ Some n → (ds ≡ decimal n) × (n < 10 ^ 19)
number_of-is ds n e =
    let p = number_parts ds n e in
    let below : number_from 0 ds < 10 ^ 19 = digits_value_short own ds 19 p.digits p.few in
    let text : decimal (number_from 0 ds) ≡ ds = decimal-digits_value own ds p.digits (some_digits ds n e) p.lead (omega arith) in
    (sym text ∙ ap decimal p.value, subst (λ (m : ℕ). m < 10 ^ 19) p.value below)

-- a word that is read as a number begins with a digit
pub first_digit : (d : ℕ) (ds : List ℕ) (n : ℕ) → number_of (d ∷ ds) ≡ Some n → (nat_eq d 39 ≡ false) × (nat_eq d 45 ≡ false)
first_digit d ds n e =
    let digits = (number_parts (d ∷ ds) n e).digits in
    let high : 48 ≤ d = low d (list_all is_digit ds) digits in
    (grind (arith, common_steps), grind (arith, common_steps))
  where
    low : (d : ℕ) (t : Bool) → (is_digit d && t) ≡ true → 48 ≤ d
    low d t h = grind (arith, common_steps, h)
