use Rattle.std.proofs.Common.{◌<◌, length, sym, subst, arith}
use Rattle.ut_sparse.specs.Sparse.{merged, AreRanks}
use Rattle.ut_sparse.proofs.SparseLemmas.{length-merged}
use Rattle.ut_sparse.proofs.sparse.Sparse.get.Goals as goal

pub rank_at-rank-requires-clause-ranks : goal.rank_at-rank-requires-clause-ranks
rank_at-rank-requires-clause-ranks c = subst (λ l. AreRanks c.self.inside.marks.codes l) (sym c.as_slice.ensures.value) c.self.invariant.3

pub rank_at-rank-requires-clause-within : goal.rank_at-rank-requires-clause-within
rank_at-rank-requires-clause-within c =
    let seen : c.args.i < length (merged c.self.inside.left_out c.self.inside.marks.codes c.self.inside.others.codes) = subst (λ v. c.args.i < length v.codes) (sym c.self.view_is) c.requires in
    omega (arith, seen, length-merged c.self.inside.left_out c.self.inside.marks.codes c.self.inside.others.codes)

pub code_here-requires-clause-within : goal.code_here-requires-clause-within
code_here-requires-clause-within c =
    let seen : c.args.i < length (merged c.self.inside.left_out c.self.inside.marks.codes c.self.inside.others.codes) = subst (λ v. c.args.i < length v.codes) (sym c.self.view_is) c.requires in
    omega (arith, seen, length-merged c.self.inside.left_out c.self.inside.marks.codes c.self.inside.others.codes)
