use Rattle.std.proofs.Common.{◌≡◌, ◌^◌, ◌≤◌, take}
use Rattle.ut_rle.specs.Runs.{AreRuns, entries_in}
use Rattle.ut_rle.specs.Ends.{lengths_from, end_from}
use Rattle.ut_rle.proofs.reading.read_runs.Given as goal

abbrev pub invariant-loop-k : goal.invariant-loop-k
invariant-loop-k l = record {
  listed : lengths_from 0 l.runs.items ≡ take l.k (entries_in l.count l.entries);
  proper : AreRuns (2 ^ l.width) (lengths_from 0 l.runs.items);
  ended : l.end ≡ end_from 0 l.runs.items;
  within : l.end ≤ l.rows;
}
