-- One or more values, by their number.
use Rattle.std.proofs.Common.{ℕ, ◌≡◌, Bool, true, false, cond, List, length, Option, None, Some, refl, ap, ◌∙◌}
use Rattle.std.specs.Prelude.{nat_lt, is_some, unwrap_or, option_and_then}
use Rattle.std.specs.Option.{option_map}
use Rattle.ut_value.specs.declared.value.Value.{Value}
use Rattle.ut_script.specs.Statements.{some_values}

tested : (t : Bool) (values : List Value) → is_some (cond t (Some values) None) ≡ t
tested true values = refl
tested false values = refl

-- there are one or more values where their number is not 0
pub some-counted : (o : Option (List Value)) (n : ℕ) → option_map length o ≡ Some n → is_some (option_and_then some_values o) ≡ nat_lt 0 n
some-counted None n h = cc
some-counted (Some values) n h = tested (nat_lt 0 (length values)) values ∙ ap (λ (o : Option ℕ). nat_lt 0 (unwrap_or o 0)) h

pub none-counted : (o : Option (List Value)) → option_map length o ≡ None → is_some (option_and_then some_values o) ≡ false
none-counted None h = refl
none-counted (Some values) h = cc

pub ruleset counted = (some-counted, none-counted)
