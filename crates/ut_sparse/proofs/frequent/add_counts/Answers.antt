use Rattle.std.proofs.Common.{arith}
use Rattle.ut_bits.proofs.BitLemmas.{AllBelow-at}
use Rattle.ut_sparse.proofs.frequent.add_counts.Goals as goal

pub bounds-counts-code : goal.bounds-counts-code
bounds-counts-code c = omega (arith, c.loop-code.auto.counts, AllBelow-at _ c.args.codes.now c.loop-code.code-index c.requires.below c.loop-code-test.true)

pub bounds-counts-code-in-loop-code : goal.bounds-counts-code-in-loop-code
bounds-counts-code-in-loop-code c = omega (arith, c.loop-code.auto.counts, AllBelow-at _ c.args.codes.now c.loop-code.code-index c.requires.below c.loop-code-test.true)
