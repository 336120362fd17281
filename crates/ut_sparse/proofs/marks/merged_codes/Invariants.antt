use Rattle.std.proofs.Common.{◌≡◌, ◌≤◌, length, take}
use Rattle.ut_sparse.specs.Sparse.{marked, merged}
use Rattle.ut_sparse.proofs.marks.merged_codes.Given as goal

abbrev pub invariant-loop-rank : goal.invariant-loop-rank
invariant-loop-rank l = record {
  within : l.from ≤ length l.marks.codes;
  rank : l.rank ≡ marked (take l.from l.marks.codes);
  codes : l.codes.items ≡ take l.from (merged l.left_out l.marks.codes l.others.codes);
}
