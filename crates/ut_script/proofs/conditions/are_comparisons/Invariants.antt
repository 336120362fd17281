use Rattle.std.proofs.Common.{◌≡◌, length}
use Rattle.std.specs.Prelude.{is_some}
use Rattle.ut_script.specs.Words.{words_of}
use Rattle.ut_script.specs.Conditions.{comparisons_of}
use Rattle.ut_script.proofs.conditions.are_comparisons.Given as goal

abbrev pub invariant-loop-words : goal.invariant-loop-words
invariant-loop-words l = is_some (comparisons_of (words_of l.rest)) ≡ is_some (comparisons_of (words_of l.fn.line))

abbrev pub decreases-loop-words : goal.decreases-loop-words
decreases-loop-words l = length l.rest
