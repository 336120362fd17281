use Rattle.std.proofs.Common.{ap, sym, ◌∙◌, length}
use Rattle.ut_sparse.proofs.SparseLemmas.{length-merged}
use Rattle.ut_sparse.proofs.sparse.Sparse.len.Goals as goal

pub returns-clause-len : goal.returns-clause-len
returns-clause-len c = c.len.ensures.len ∙ sym (length-merged c.self.inside.left_out c.self.inside.marks.codes c.self.inside.others.codes) ∙ ap (λ v. length v.codes) c.self.view_is
