use Rattle.std.proofs.Common.{◌≡◌, ◌++◌, length}
use Rattle.std.specs.Option.{option_map}
use Rattle.ut_script.specs.Words.{words_of}
use Rattle.ut_script.specs.Conditions.{comparisons_of}
use Rattle.ut_script.proofs.conditions.read_comparisons.Given as goal

-- those so far and those that are left are all
abbrev pub invariant-loop-words : goal.invariant-loop-words
invariant-loop-words l = option_map (λ ps. l.preds.items ++ ps) (comparisons_of (words_of l.rest)) ≡ comparisons_of (words_of l.fn.line)

abbrev pub decreases-loop-words : goal.decreases-loop-words
decreases-loop-words l = length l.rest
