use Rattle.std.proofs.Common.{◌+◌, take}
use Rattle.ut_bits.specs.Bits.{AllBelow}
use Rattle.ut_sparse.proofs.frequent.greatest_of.Given as goal

abbrev pub invariant-loop-code : goal.invariant-loop-code
invariant-loop-code l = AllBelow (l.greatest + 1) (take l.code-index l.codes)
