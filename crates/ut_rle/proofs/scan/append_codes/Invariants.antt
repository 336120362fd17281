use Rattle.std.proofs.Common.{◌≡◌, ◌++◌, take}
use Rattle.ut_rle.specs.Runs.{expanded}
use Rattle.ut_rle.specs.Ends.{lengths_from, end_from}
use Rattle.ut_rle.proofs.scan.append_codes.Given as goal

abbrev pub invariant-loop-run : goal.invariant-loop-run
invariant-loop-run l = record {
  begun : l.from ≡ end_from 0 (take l.run-index l.runs);
  codes : l.out.items ≡ l.initial.out.items ++ expanded (lengths_from 0 (take l.run-index l.runs));
}
