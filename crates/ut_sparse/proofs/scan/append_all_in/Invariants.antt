use Rattle.std.proofs.Common.{◌≡◌, ◌≤◌, ◌++◌, length, take}
use Rattle.ut_bits.specs.Places.{places_where, is_in}
use Rattle.ut_sparse.specs.Sparse.{marked, merged}
use Rattle.ut_sparse.proofs.scan.append_all_in.Given as goal

abbrev pub invariant-loop-rank : goal.invariant-loop-rank
invariant-loop-rank l = record {
  within : l.from ≤ length l.marks.codes;
  rank : l.rank ≡ marked (take l.from l.marks.codes);
  places : l.out.items ≡ l.initial.out.items ++ places_where (is_in l.ranges) (take l.from (merged l.left_out l.marks.codes l.others.codes));
}
