use Rattle.std.proofs.Common.{◌≡◌, ◌++◌, length}
use Rattle.std.specs.Option.{option_map}
use Rattle.ut_script.specs.Words.{words_of, all_of}
use Rattle.ut_script.specs.Literals.{value_of}
use Rattle.ut_script.proofs.listed.each_value.Given as goal

-- those so far and those that are left are all
abbrev pub invariant-loop-word : goal.invariant-loop-word
invariant-loop-word l = option_map (λ xs. l.values.items ++ xs) (all_of value_of (words_of l.rest)) ≡ all_of value_of (words_of l.fn.line)

abbrev pub decreases-loop-word : goal.decreases-loop-word
decreases-loop-word l = length l.rest
