use Rattle.std.proofs.Common.{◌≤◌, arith}
use Rattle.ut_change.proofs.WriteLemmas.{element_short}
use Rattle.ut_change.proofs.write.ops_len.Goals as goal

pub op_len-total-requires : goal.op_len-total-requires
op_len-total-requires c = omega (arith, element_short c.args.ops.now c.loop-op.op-index c.op-item.result c.loop-op-test.true c.op-item.is c.loop-op.invariant.rule)

pub overflow_add-total : goal.overflow_add-total
overflow_add-total c =
    let few : c.loop-op.total ≤ c.args.most = c.loop-op.invariant.few in
    let most = c.requires.most in
    omega (arith, few, most, c.op_len-total.ensures, element_short c.args.ops.now c.loop-op.op-index c.op-item.result c.loop-op-test.true c.op-item.is c.loop-op.invariant.rule)
