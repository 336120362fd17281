use Rattle.std.proofs.Common.{◌+◌, arith}
use Rattle.ut_bits.proofs.BitLemmas.{AllBelow-at}
use Rattle.ut_merge.proofs.marking.mark_used.Goals as goal

pub index_mut-requires : goal.index_mut-requires
index_mut-requires c =
    omega (arith, AllBelow-at (c.args.first + c.args.count) c.args.codes.now c.loop-code.code-index c.requires c.loop-code-test.true, c.if-first-code.true, c.loop-code.invariant.0, c.loop-code.marks.ok.0)
