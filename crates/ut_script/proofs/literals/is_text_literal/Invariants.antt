use Rattle.std.proofs.Common.{◌≡◌, ◌≤◌, drop, false}
use Rattle.std.specs.Option.{option_map}
use Rattle.ut_value.specs.Text.{is_text}
use Rattle.ut_script.specs.Literals.{unquoted}
use Rattle.ut_script.proofs.LiteralLemmas.{fits}
use Rattle.ut_script.proofs.literals.is_text_literal.Given as goal

-- the bytes of the text so far are in order, and with so many of them the rest decides
abbrev pub invariant-loop-b : goal.invariant-loop-b
invariant-loop-b l = record {
  rest : option_map (fits l.count) (unquoted l.pending (drop l.b-index l.bytes)) ≡ option_map is_text (unquoted false l.bytes);
  few : l.count ≤ l.b-index;
}
