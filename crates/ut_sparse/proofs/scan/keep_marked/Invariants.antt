use Rattle.std.proofs.Common.{◌≡◌, ◌≤◌, length, take}
use Rattle.std.specs.Prelude.{map}
use Rattle.ut_bits.specs.Places.{is_in}
use Rattle.ut_mask.specs.Mask.{kept}
use Rattle.ut_sparse.specs.Sparse.{marked, merged}
use Rattle.ut_sparse.proofs.scan.keep_marked.Given as goal

abbrev pub invariant-loop-rank : goal.invariant-loop-rank
invariant-loop-rank l = record {
  within : l.from ≤ length l.marks.codes;
  rank : l.rank ≡ marked (take l.from l.marks.codes);
  kept : l.mask ≡ kept l.initial.mask (map (is_in l.ranges) (take l.from (merged l.left_out l.marks.codes l.others.codes)));
}
