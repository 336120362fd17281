use Rattle.std.proofs.Common.{◌≡◌, ◌++◌, take}
use Rattle.ut_bits.specs.Places.{places_where, is_in}
use Rattle.ut_rle.specs.Runs.{expanded}
use Rattle.ut_rle.specs.Ends.{lengths_from, end_from}
use Rattle.ut_rle.proofs.scan.append_places_in.Given as goal

abbrev pub invariant-loop-run : goal.invariant-loop-run
invariant-loop-run l = record {
  begun : l.from ≡ end_from 0 (take l.run-index l.runs);
  places : l.out.items ≡ l.initial.out.items ++ places_where (is_in l.ranges) (expanded (lengths_from 0 (take l.run-index l.runs)));
}
