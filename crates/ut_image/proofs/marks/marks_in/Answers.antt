use Rattle.std.proofs.Common.{[], rules}
use Rattle.ut_image.specs.Steps.{bit_in, first_bits}
use Rattle.ut_image.proofs.MarkLemmas.{one_more}
use Rattle.ut_image.proofs.marks.marks_in.Goals as goal

pub loop-i-preserved : goal.loop-i-preserved
loop-i-preserved c = one_more (bit_in c.args.bytes.now) c.loop-i.i [] c.loop-i.marks.items _ c.bit_at.result c.loop-i.invariant c.in_ok-push.ensures.items c.bit_at.ensures

pub returns : goal.returns
unfolding first_bits
returns c = search rules
