use Rattle.std.proofs.Common.{arith}
use Rattle.ut_image.specs.Bytes.{part_bytes}
use Rattle.ut_image.specs.Steps.{part_len}
use Rattle.ut_image.proofs.PutLemmas.{left_more, length_more, put_more}
use Rattle.ut_image.proofs.put.put_parts.Goals as goal

pub loop-part-preserved : goal.loop-part-preserved
loop-part-preserved c =
    let parts = c.args.parts.now in
    let i = c.loop-part.part-index in
    let here = left_more parts i c.part-item.result c.loop-part-test.true c.part-item.is in
    record {
      written = put_more part_bytes parts i c.part-item.result c.loop-part.out.items c.put_part.new.out.items _ here c.put_part.ensures.items c.loop-part.invariant.written;
      length = length_more part_len parts i c.part-item.result _ _ _ here c.put_part.ensures.len c.loop-part.invariant.length;
      room = omega arith;
    }
