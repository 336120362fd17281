use Rattle.std.proofs.Common.{◌≡◌, ℕ, ap, sym, arith}
use Rattle.ut_sparse.specs.Frequent.{count_of, most_frequent}
use Rattle.ut_sparse.specs.Sparse.{merged}
use Rattle.ut_sparse.proofs.FrequentLemmas.{is-most_frequent}
use Rattle.ut_sparse.proofs.SparseLemmas.{length-merged, count_of-merged}
use Rattle.ut_sparse.proofs.sparse.Sparse.exceptions.Goals as goal

pub returns : goal.returns
returns c =
    let codes = merged c.self.inside.left_out c.self.inside.marks.codes c.self.inside.others.codes in
    let left = is-most_frequent codes c.self.inside.left_out c.self.invariant.4 in
    let count = count_of-merged c.self.inside.left_out c.self.inside.marks.codes c.self.inside.others.codes c.self.invariant.2.bits c.self.invariant.2.paired in
    let size = length-merged c.self.inside.left_out c.self.inside.marks.codes c.self.inside.others.codes in
    let same : count_of (most_frequent codes) codes ≡ count_of c.self.inside.left_out codes = ap (λ (n : ℕ). count_of n codes) (sym left) in
    rw (← c.self.view_is) (omega (arith, c.len.ensures.len, same, count, size, c.self.invariant.2.paired, c.self.invariant.2.differ))
