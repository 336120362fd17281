use Rattle.ut_reply.proofs.LoopLemmas.{led_more}
use Rattle.ut_reply.proofs.columns.led_columns.Goals as goal

pub loop-cells-preserved : goal.loop-cells-preserved
loop-cells-preserved c =
    led_more c.args.first.now c.args.more.now c.loop-cells.cells-index c.cells-item.result c.loop-cells.columns.items c.push-in-loop-cells.new.self.items c.column_of-in-loop-cells.result
    c.loop-cells-test.true c.cells-item.is c.loop-cells.invariant c.column_of-in-loop-cells.ensures c.in_ok-push-2.ensures.items
