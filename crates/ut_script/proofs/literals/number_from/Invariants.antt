use Rattle.std.proofs.Common.{◌≡◌, ◌<◌, drop, true}
use Rattle.std.specs.List.{list_all}
use Rattle.ut_value.specs.Text.{is_digit}
use Rattle.ut_script.specs.Literals.{number_from}
use Rattle.ut_script.proofs.Powers.{ten_to}
use Rattle.ut_script.proofs.literals.number_from.Given as goal

abbrev pub invariant-loop-d : goal.invariant-loop-d
invariant-loop-d l = record {
  small : l.number < ten_to l.d-index;
  rest : number_from l.number (drop l.d-index l.digits) ≡ number_from 0 l.digits;
  digits : list_all is_digit (drop l.d-index l.digits) ≡ true;
}
