use Rattle.std.proofs.Common.{arith}
use Rattle.ut_recode.specs.Recode.{with_staying}
use Rattle.ut_recode.proofs.ShareLemmas.{one_more}
use Rattle.ut_recode.proofs.recoding.recode_span.Goals as goal

pub loop-i-preserved : goal.loop-i-preserved
loop-i-preserved c =
    one_more (with_staying c.args.first c.args.map.now) c.args.codes.now c.loop-i.out.items c.push.new.self.items c.args.from c.loop-i.i c.new_code.result (omega arith) (omega arith) c.loop-i.invariant c.in_ok-push.ensures.items (c.new_code.ensures)
