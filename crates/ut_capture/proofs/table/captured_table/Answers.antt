use Rattle.ut_capture.proofs.PartLemmas.{table-captured}
use Rattle.ut_capture.proofs.table.captured_table.Goals as goal

pub returns : goal.returns
returns c = table-captured c.args.fates.now c.args.entries _ c.args.table.now c.args.stages.now.stages c.requires c.in_ok-table.ensures c.in_ok-parts.ensures.parts c.in_ok-deltas.ensures
