use Rattle.std.proofs.Common.{◌≡◌, take}
use Rattle.std.specs.List.{count_by}
use Rattle.ut_mask.specs.Mask.{words_bits}
use Rattle.ut_mask.proofs.mask.Mask.count.Given as goal

abbrev pub invariant-loop-word : goal.invariant-loop-word
invariant-loop-word l = l.count ≡ count_by (λ b. b) (words_bits (take l.word-index l.word-items))
