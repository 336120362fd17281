use Rattle.std.proofs.Common.{◌≡◌, ◌≤◌, ◌++◌, drop, false, length, vec_capacity, vec_len}
use Rattle.std.specs.Option.{option_map}
use Rattle.ut_script.specs.Literals.{unquoted}
use Rattle.ut_script.proofs.literals.unquoted.Given as goal

-- the text so far and the text of what is left are the text of all
abbrev pub invariant-loop-b : goal.invariant-loop-b
invariant-loop-b l = record {
  rest : option_map (λ text. l.text.items ++ text) (unquoted l.pending (drop l.b-index l.bytes)) ≡ unquoted false l.bytes;
  len : vec_len l.text ≤ l.b-index;
  room : vec_capacity l.text ≡ length l.bytes;
}
