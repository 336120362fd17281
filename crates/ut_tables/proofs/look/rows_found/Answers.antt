use Rattle.ut_tables.proofs.FoundLemmas.{row_more}
use Rattle.ut_tables.proofs.look.rows_found.Goals as goal

pub loop-hit-preserved : goal.loop-hit-preserved
loop-hit-preserved c =
    row_more c.args.table.now.stages c.args.found.now c.loop-hit.hit-index _ c.loop-hit.rows c.push.new.self c.in_ok-values.values (c.requires c.loop-hit.hit-index _ c.loop-hit-test.true) c.in_ok-values.ensures c.loop-hit-test.true c.loop-hit.invariant c.in_ok-push.ensures.ok
