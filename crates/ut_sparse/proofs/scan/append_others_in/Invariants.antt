use Rattle.std.proofs.Common.{◌≡◌, ◌*◌, ◌++◌, take}
use Rattle.ut_bits.specs.Places.{places_from, is_in}
use Rattle.ut_sparse.specs.Sparse.{merged}
use Rattle.ut_sparse.proofs.scan.append_others_in.Given as goal

abbrev pub invariant-loop-k : goal.invariant-loop-k
invariant-loop-k l = l.out.items ≡ l.initial.out.items ++ places_from (is_in l.ranges) 0 (take (64 * l.k) (merged l.left_out l.marks.codes l.others.codes))
