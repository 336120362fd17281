use Rattle.std.proofs.Common.{◌≡◌, ◌++◌, length, vec_capacity}
use Rattle.std.specs.Option.{option_map}
use Rattle.ut_script.specs.Words.{words_of, all_of}
use Rattle.ut_script.proofs.spelled.read_all.Given as goal

-- those so far and those that are left are all
abbrev pub invariant-loop-word : goal.invariant-loop-word
invariant-loop-word g l = record {
  rest : option_map (λ xs. l.items.items ++ xs) (all_of g.T.Spelled.spelled (words_of l.rest)) ≡ all_of g.T.Spelled.spelled (words_of l.fn.line);
  room : vec_capacity l.items ≡ l.fn.count;
}

abbrev pub decreases-loop-word : goal.decreases-loop-word
decreases-loop-word g l = length l.rest
