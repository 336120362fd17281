use Rattle.std.proofs.Common.{◌≡◌, ◌<◌, length, map, take, All}
use Rattle.ut_rows.specs.Columns.{values_at}
use Rattle.ut_ops.specs.Fit.{cell}
use Rattle.ut_ops.specs.Seen.{AreSeen}
use Rattle.ut_ops.proofs.gather.read_values.Given as goal

-- the places of the rows so far have their values
abbrev pub invariant-loop-hit : goal.invariant-loop-hit
invariant-loop-hit l = record {
  seen : AreSeen l.table.stages l.column l.seen.values.items l.seen.marks.items;
  inside : All (λ p. p < length l.seen.values.items) l.places.items;
  read : values_at l.seen.values.items l.places.items ≡ map (cell l.table.stages l.column) (take l.hit-index l.hits);
}
