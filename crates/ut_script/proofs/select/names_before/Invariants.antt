use Rattle.std.proofs.Common.{◌≡◌, ◌≤◌, ◌+◌, length}
use Rattle.std.specs.Option.{option_map}
use Rattle.ut_script.specs.Words.{words_of}
use Rattle.ut_script.specs.Statements.{names_before, from_where}
use Rattle.ut_script.proofs.select.names_before.Given as goal

-- those so far and those that are left are all
abbrev pub invariant-loop-word : goal.invariant-loop-word
invariant-loop-word l = record {
  count : option_map (λ n. l.count + n) (option_map length (names_before (words_of l.rest))) ≡ option_map length (names_before (words_of l.fn.line));
  rest : from_where (words_of l.rest) ≡ from_where (words_of l.fn.line);
  few : l.count + length l.rest ≤ length l.fn.line;
}

abbrev pub decreases-loop-word : goal.decreases-loop-word
decreases-loop-word l = length l.rest
