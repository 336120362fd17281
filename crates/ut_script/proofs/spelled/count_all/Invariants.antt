use Rattle.std.proofs.Common.{◌≡◌, ◌≤◌, ◌+◌, length}
use Rattle.std.specs.Option.{option_map}
use Rattle.ut_script.specs.Words.{words_of, all_of}
use Rattle.ut_script.proofs.spelled.count_all.Given as goal

-- those so far and those that are left are all
abbrev pub invariant-loop-word : goal.invariant-loop-word
invariant-loop-word g l = record {
  rest : option_map (λ n. l.count + n) (option_map length (all_of g.T.Spelled.spelled (words_of l.rest))) ≡ option_map length (all_of g.T.Spelled.spelled (words_of l.fn.line));
  few : l.count + length l.rest ≤ length l.fn.line;
}

abbrev pub decreases-loop-word : goal.decreases-loop-word
decreases-loop-word g l = length l.rest
