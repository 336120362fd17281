use Rattle.std.proofs.Common.{◌≡◌, ◌++◌, length, vec_capacity}
use Rattle.std.specs.Option.{option_map}
use Rattle.ut_script.specs.Words.{words_of}
use Rattle.ut_script.specs.Statements.{names_before}
use Rattle.ut_script.proofs.select.read_names.Given as goal

-- those so far and those that are left are all
abbrev pub invariant-loop-word : goal.invariant-loop-word
invariant-loop-word l = record {
  rest : option_map (λ xs. l.names.items ++ xs) (names_before (words_of l.rest)) ≡ names_before (words_of l.fn.line);
  room : vec_capacity l.names ≡ l.fn.count;
}

abbrev pub decreases-loop-word : goal.decreases-loop-word
decreases-loop-word l = length l.rest
