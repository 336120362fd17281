use Rattle.std.proofs.Common.{◌≡◌, ◌≤◌, length}
use Rattle.std.specs.Vec.Iter.{into_iter_items, into_iter_len}
use Rattle.ut_plain.specs.Rows.{inserts_of}
use Rattle.ut_table.specs.Finds.{hits_of}
use Rattle.ut_staged.specs.Staging.{written}
use Rattle.ut_change.specs.Writes.{CanWrite}
use Rattle.ut_change.proofs.write.write_all.Given as goal

abbrev pub invariant-loop-op : goal.invariant-loop-op
invariant-loop-op l = record {
  can : CanWrite l.table.stages (hits_of l.hits) (into_iter_items l.op-iterator);
  room : inserts_of (into_iter_items l.op-iterator) ≤ l.table.spare;
  written : written l.number (into_iter_items l.op-iterator) (hits_of l.hits) l.table.stages ≡ written l.number (into_iter_items l.initial.op-iterator) (hits_of l.fn.hits) l.fn.table.stages;
  count : into_iter_len l.op-iterator ≡ length (into_iter_items l.op-iterator);
}
