use Rattle.std.proofs.Common.{ℕ, ◌++◌, List, ap, ◌∙◌, append_assoc}
use Rattle.ut_bits.specs.Bits.{packed_bytes}
use Rattle.ut_bits.specs.Words.{word_bytes}
use Rattle.ut_sparse.specs.Sparse.{sparse_bytes}
use Rattle.ut_sparse.proofs.SparseLemmas.{sparse_bytes-merged}
use Rattle.ut_sparse.proofs.sparse.Sparse.bytes_of.Goals as goal

pub returns-clause-ok : goal.returns-clause-ok
returns-clause-ok c =
    let spelled = sparse_bytes-merged c.self.inside.others.width c.self.inside.left_out c.self.inside.marks.codes c.self.inside.others.codes c.self.invariant.2 c.self.invariant.4 in
    let first = rw (← c.in_ok-cut_at_error.ensures.same) at c.bytes_of.ensures.ok in
    let second = rw (← c.in_ok-cut_at_error-2.ensures.same) at c.bytes_of-2.ensures.ok in
    c.in_ok-cut_at_error-2.ensures.ok ∙ second ∙ ap (λ l. l ++ packed_bytes c.self.inside.others.width c.self.inside.others.codes) (c.in_ok-cut_at_error.ensures.ok ∙ first ∙ ap (λ l. l ++ packed_bytes c.self.inside.marks.width c.self.inside.marks.codes) c.in_ok-append_word.ensures.ok)
    ∙ ap (λ (w : ℕ). ((c.args.out.now.items ++ word_bytes c.self.inside.left_out) ++ packed_bytes w c.self.inside.marks.codes) ++ packed_bytes c.self.inside.others.width c.self.inside.others.codes) c.self.invariant.0
    ∙ append_assoc (c.args.out.now.items ++ word_bytes c.self.inside.left_out) _ _ ∙ append_assoc c.args.out.now.items _ _
    ∙ ap (λ (l : List ℕ). c.args.out.now.items ++ l) (spelled ∙ ap (λ v. sparse_bytes v.width v.codes) c.self.view_is)
