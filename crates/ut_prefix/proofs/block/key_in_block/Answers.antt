use Rattle.std.proofs.Common.{◌+◌, ◌-◌, arith, ◌∙◌}
use Rattle.ut_prefix.proofs.BlockLemmas.{at_first, at_next}
use Rattle.ut_prefix.proofs.block.key_in_block.Goals as goal

pub loop-init : goal.loop-init
loop-init c = at_first (c.args.i + 1) c.args.i (c.args.i - 0) c.args.block.now _ _ (c.from_slice-key.ensures ∙ c.first_of.ensures.key) c.first_of.ensures.rest (omega arith) (omega arith) c.requires

pub loop-preserved : goal.loop-preserved
loop-preserved c =
    at_next (c.args.i - c.loop.counter) (c.args.i - (c.loop.counter + 1)) c.loop.key c.loop.rest.now _ _ _ (omega arith) c.read_next-rest.ensures.key c.read_next-rest.ensures.rest c.loop.invariant.0 c.loop.invariant.1
