use Rattle.std.proofs.Common.{ap, sym, ◌∙◌, length}
use Rattle.ut_sparse.proofs.SparseLemmas.{length-merged}
use Rattle.ut_sparse.proofs.sparse.Sparse.keep_in.Goals as goal

pub keep_marked-requires-clause-length : goal.keep_marked-requires-clause-length
keep_marked-requires-clause-length c =
    c.requires ∙ sym (ap (λ v. length v.codes) c.self.view_is) ∙ length-merged c.self.inside.left_out c.self.inside.marks.codes c.self.inside.others.codes
