use Rattle.std.proofs.Common.{◌+◌, ◌<◌, length, arith}
use Rattle.ut_bits.proofs.BitLemmas.{AllBelow-at}
use Rattle.ut_main.proofs.used.mark_used.Goals as goal

pub index_mut-requires : goal.index_mut-requires
index_mut-requires c =
    let lt : c.loop-i.i < length c.args.codes.now.codes = omega (arith, c.loop-i-test.true, c.len-i-end.ensures.len) in
    let below = AllBelow-at (c.args.start + c.args.count) c.args.codes.now.codes c.loop-i.i c.requires lt in
    let size = c.loop-i.invariant.0 in
    omega (arith, below, c.get-code.ensures, size, c.if-start-code.true, c.loop-i.marks.ok.0)
