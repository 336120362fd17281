use Rattle.std.proofs.Common.{◌≡◌, ◌+◌, ◌-◌, ◌*◌, ◌+ℤ◌, to_z, of_z, length, arith}
use Rattle.std.specs.Int.{w128}
use Rattle.std.proofs.lemmas.Int.{ints}
use Rattle.ut_prefix.proofs.LayoutLemmas.{block_at, IsBlock-at}
use Rattle.ut_prefix.proofs.TotalLemmas.{IsWithin-sum}
use Rattle.ut_prefix.proofs.AboveLemmas.{block-more}
use Rattle.ut_prefix.proofs.weigh.all_above.Goals as goal

pub block_of-block-requires-clause-start : goal.block_of-block-requires-clause-start
block_of-block-requires-clause-start c = (block_at c.args.starts.now c.args.len c.args.bytes.now c.loop-i.i c.requires.blocks (omega arith)).0

pub block_above-sum-requires-clause-block : goal.block_above-sum-requires-clause-block
block_above-sum-requires-clause-block c =
    IsBlock-at c.args.starts.now c.args.len c.args.bytes.now c.block_of-block.result.now c.loop-i.i (length c.split_at.result.0.now) c.requires.blocks (omega arith) c.block_of-block.ensures
    (omega (arith, c.split_at.ensures.front_len, c.min.ensures, c.loop-i.invariant.few))

pub loop-i-preserved : goal.loop-i-preserved
loop-i-preserved c =
    let i = c.loop-i.i in
    let left = c.loop-i.left.now in
    let own = c.split_at.result.0.now in
    let later = c.split_at.result.1.now in
    let few = c.loop-i.invariant.few in
    let fewer = c.loop-i.invariant.fewer in
    let front = c.split_at.ensures.front_len in
    let back = c.split_at.ensures.back_len in
    let before = c.loop-i.invariant.within in
    let more = c.block_above-sum.ensures.within in
    let new : to_z w128 (of_z w128 (to_z w128 c.loop-i.sum-bits +ℤ to_z w128 (of_z w128 c.block_above-sum.result))) ≡ to_z w128 c.loop-i.sum-bits +ℤ c.block_above-sum.result = omega (arith, ints) in
    record {
      fewer = omega arith;
      few = omega arith;
      rest = block-more c.args.usual c.args.starts.now c.args.bytes.now c.block_of-block.result.now left own later i (c.args.len - 16 * i) (c.args.len - 16 * (i + 1)) c.min.result _ c.block_above-sum.result _ _ (omega arith) (omega arith) few c.min.ensures c.split_at.ensures.front c.split_at.ensures.back c.block_of-block.ensures c.block_above-sum.ensures.sum new c.loop-i.invariant.rest;
      within = IsWithin-sum 39614081257132168796771975168 (length c.args.weights.now - length left) (length own) (length c.args.weights.now - length later) _ _ _ c.loop-i.invariant.within c.block_above-sum.ensures.within new (omega arith);
    }
