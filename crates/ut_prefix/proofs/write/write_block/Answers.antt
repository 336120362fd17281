use Rattle.std.proofs.Common.{◌+◌, arith, refl}
use Rattle.ut_prefix.proofs.SpellingLemmas.{block_begun, block_more}
use Rattle.ut_prefix.proofs.write.write_block.Goals as goal

pub loop-i-init : goal.loop-i-init
loop-i-init c =
    block_begun c.args.keys.now c.args.start c.args.end (c.args.start + 1) c.key-first.result.now c.args.out.now.items c.push.new.self.items c.extend_from_slice.new.self.items refl c.requires.some c.requires.within c.key-first.ensures.key c.in_ok-push.ensures.items c.in_ok-extend_from_slice.ensures.items

pub loop-i-preserved : goal.loop-i-preserved
loop-i-preserved c =
    block_more c.args.keys.now c.args.end c.loop-i.i c.key.result.now c.key-in-loop-i.result.now c.loop-i.out.items c.write_key.new.out.items _ (omega arith) c.requires.within c.key.ensures.key c.key-in-loop-i.ensures.key c.in_ok-write_key.ensures c.loop-i.invariant
