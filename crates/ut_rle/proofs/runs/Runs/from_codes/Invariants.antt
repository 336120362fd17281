use Rattle.std.proofs.Common.{◌≡◌, ◌-◌, ◌^◌, ◌<◌, ◌≤◌, ◌++◌, false, length, take}
use Rattle.ut_rle.specs.Runs.{copies, expanded, is_last_code, AreRuns}
use Rattle.ut_rle.specs.Ends.{lengths_from, end_from}
use Rattle.ut_rle.proofs.runs.Runs.from_codes.Given as goal

abbrev pub invariant-loop-i : goal.invariant-loop-i
invariant-loop-i l = record {
  begun : end_from 0 l.runs.items < l.i;
  within : l.i ≤ length l.codes;
  codes : expanded (lengths_from 0 l.runs.items) ++ copies (l.i - end_from 0 l.runs.items) l.current ≡ take l.i l.codes;
  runs : AreRuns (2 ^ l.width) (lengths_from 0 l.runs.items);
  other : is_last_code (lengths_from 0 l.runs.items) l.current ≡ false;
  below : l.current < 2 ^ l.width;
}
