use Rattle.std.proofs.Common.{◌∙◌}
use Rattle.ut_ops.proofs.CellLemmas.{order-is}
use Rattle.ut_ops.proofs.cell.compare_at.Goals as goal

pub returns : goal.returns
returns c = c.cmp.ensures ∙ order-is c.args.table.now.stages c.args.column c.args.first c.args.second c.key-key.result.now c.key.result.now c.requires.first c.requires.second c.requires.column c.key-key.ensures c.key.ensures
