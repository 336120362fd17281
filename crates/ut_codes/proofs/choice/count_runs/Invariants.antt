use Rattle.std.proofs.Common.{◌≡◌, ◌+◌, ◌-◌, ◌≤◌, length, drop}
use Rattle.ut_rle.specs.Runs.{runs_of}
use Rattle.ut_codes.proofs.SizeLemmas.{changes}
use Rattle.ut_codes.proofs.choice.count_runs.Given as goal

abbrev pub invariant-loop-i : goal.invariant-loop-i
invariant-loop-i l = record {
  counted : l.count + changes (drop (l.i - 1) l.codes) ≡ length (runs_of l.codes);
  few : l.count ≤ l.i;
}
