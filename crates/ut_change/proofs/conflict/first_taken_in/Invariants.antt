use Rattle.std.proofs.Common.{◌≡◌, drop}
use Rattle.ut_table.specs.Finds.{hits_of}
use Rattle.ut_change.specs.Writes.{AreThere}
use Rattle.ut_change.specs.Conflicts.{first_taken_in}
use Rattle.ut_change.proofs.conflict.first_taken_in.Given as goal

abbrev pub invariant-loop-hit : goal.invariant-loop-hit
invariant-loop-hit l = record {
  there : AreThere l.table.stages (hits_of (drop l.hit-index l.hits));
  rest : first_taken_in l.table.stages l.snapshot.fates.now l.snapshot.at l.snapshot.own (hits_of (drop l.hit-index l.hits)) ≡ first_taken_in l.table.stages l.snapshot.fates.now l.snapshot.at l.snapshot.own (hits_of l.hits);
}
