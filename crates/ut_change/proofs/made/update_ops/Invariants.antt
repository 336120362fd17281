use Rattle.std.proofs.Common.{◌≡◌, ◌+◌, ◌++◌, drop}
use Rattle.ut_table.specs.Finds.{hits_of}
use Rattle.ut_change.specs.Writes.{AreThere}
use Rattle.ut_change.specs.Made.{updated_ops}
use Rattle.ut_change.proofs.made.update_ops.Given as goal

abbrev pub invariant-loop-hit : goal.invariant-loop-hit
invariant-loop-hit l = record {
  there : AreThere l.stages.stages (hits_of (drop l.hit-index l.hits));
  ids : l.id ≡ l.fn.id + l.hit-index;
  rest : l.ops.items ++ updated_ops l.stages.stages l.change.table l.id l.change.column l.value (hits_of (drop l.hit-index l.hits)) ≡ updated_ops l.stages.stages l.change.table l.fn.id l.change.column l.value (hits_of l.hits);
}
