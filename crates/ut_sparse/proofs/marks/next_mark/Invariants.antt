use Rattle.std.proofs.Common.{◌≡◌, ◌-◌, ◌<◌, ◌≤◌, length, take}
use Rattle.ut_bits.specs.Bits.{joined}
use Rattle.ut_sparse.specs.Sparse.{marked}
use Rattle.ut_sparse.proofs.ScanLemmas.{row_marks}
use Rattle.ut_sparse.proofs.marks.next_mark.Given as goal

abbrev pub invariant-loop-rest : goal.invariant-loop-rest
invariant-loop-rest l = record {
  behind : l.row ≤ l.at;
  within : l.at < length l.marks.codes;
  rest : l.rest ≡ joined 1 (row_marks l.at l.marks.codes);
  first : marked (take l.at l.marks.codes) ≡ marked (take l.row l.marks.codes);
}

abbrev pub decreases-loop-rest : goal.decreases-loop-rest
decreases-loop-rest l = length l.marks.codes - l.at
