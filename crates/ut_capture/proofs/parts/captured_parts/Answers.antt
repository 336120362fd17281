use Rattle.std.proofs.Common.{arith}
use Rattle.ut_capture.proofs.PartLemmas.{part_more, all_parts}
use Rattle.ut_capture.proofs.parts.captured_parts.Goals as goal

pub loop-p-preserved : goal.loop-p-preserved
loop-p-preserved c = (
  omega (arith, c.in_ok-push.ensures.len, c.loop-p.invariant.0),
  part_more c.args.fates.now c.args.entries c.stages-stages.ensures c.loop-p.p c.loop-p.parts.items c.push.new.self.items c.in_ok-captured_part.field-0 (omega (arith, c.loop-p-test.true, c.parts-p-end.ensures.count))
      c.in_ok-captured_part.ensures.rows c.in_ok-captured_part.ensures.before c.in_ok-captured_part.ensures.live c.loop-p.invariant.1 c.in_ok-push.ensures.items,
)

pub returns-clause-parts : goal.returns-clause-parts
returns-clause-parts c =
    all_parts c.args.fates.now c.args.entries c.stages-stages.ensures c.loop-p.p c.loop-p.parts.items (omega (arith, c.loop-p-test.false, c.parts-p-end.ensures.count)) c.loop-p.invariant.1
