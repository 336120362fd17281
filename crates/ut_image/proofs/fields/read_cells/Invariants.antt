use Rattle.std.proofs.Common.{drop}
use Rattle.ut_image.proofs.NoneLemmas.{AreRead}
use Rattle.ut_image.proofs.fields.read_cells.Given as goal

abbrev pub invariant-loop-column : goal.invariant-loop-column
invariant-loop-column l = AreRead l.columns (drop l.column-index l.columns) l.bytes l.values.items l.rest
