use Rattle.std.proofs.Common.{◌≡◌, ◌+◌, ◌-◌, ◌*◌, ◌≤◌, ◌++◌, take, drop, length}
use Rattle.ut_bits.specs.Bits.{joined}
use Rattle.ut_bits.specs.Places.{places_from, is_in}
use Rattle.ut_sparse.specs.Sparse.{marked, merged}
use Rattle.ut_sparse.proofs.ScanLemmas.{word_from}
use Rattle.ut_sparse.proofs.scan.append_marked_in.Given as goal

abbrev pub invariant-loop-rest : goal.invariant-loop-rest
invariant-loop-rest l = record {
  within : l.passed ≤ length (word_from (64 * l.k) l.marks.codes);
  rest : l.rest ≡ joined 1 (drop l.passed (word_from (64 * l.k) l.marks.codes));
  rank : l.rank ≡ marked (take (64 * l.k + l.passed) l.marks.codes);
  places : l.out.items ≡ l.initial.out.items ++ places_from (is_in l.ranges) (64 * l.k) (take l.passed (word_from (64 * l.k) (merged l.left_out l.marks.codes l.others.codes)));
}

abbrev pub decreases-loop-rest : goal.decreases-loop-rest
decreases-loop-rest l = 64 - l.passed
