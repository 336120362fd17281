use Rattle.std.proofs.Common.{refl}
use Rattle.ut_capture.proofs.StoreLemmas.{columns-here, table_more, all_captured}
use Rattle.ut_capture.proofs.store.captured.Goals as goal

pub captured_table-requires : goal.captured_table-requires
captured_table-requires c =
    columns-here c.args.rows.now.rows c.args.entries c.requires c.tables-tables.result.now c.stages-stages.result.now c.tables-tables.ensures c.stages-stages.ensures
    c.loop-n.n c.index-tables-n.result c.index-stages-n.result c.loop-n-test.true c.index-tables-n.is c.index-stages-n.is

pub loop-n-preserved : goal.loop-n-preserved
loop-n-preserved c =
    table_more c.args.rows.now.rows c.args.entries c.requires c.tables-tables.result.now c.stages-stages.result.now c.tables-tables.ensures c.stages-stages.ensures
    c.fates-fates.result.now c.args.entries c.loop-n.n c.loop-n.captured.items c.push.new.self.items c.in_ok-captured_table.field-0 c.index-tables-n.result c.index-stages-n.result
    c.loop-n-test.true c.index-tables-n.is c.index-stages-n.is c.loop-n.invariant c.in_ok-captured_table.ensures c.in_ok-push.ensures.items

pub returns : goal.returns
returns c =
    all_captured c.args.rows.now.rows c.args.entries c.requires c.tables-tables.result.now c.stages-stages.result.now c.tables-tables.ensures c.stages-stages.ensures
    c.fates-fates.result.now c.args.entries c.loop-n.n c.loop-n.captured.items c.fates-fates.ensures refl c.loop-n-test.false c.loop-n.invariant
