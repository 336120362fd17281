use Rattle.std.proofs.Common.{ℕ, get_or, ap, sym, ◌∙◌, arith}
use Rattle.ut_sparse.proofs.SparseLemmas.{get_or-merged_left, get_or-merged_other, rank-within}
use Rattle.ut_sparse.proofs.marks.code_here.Goals as goal

pub returns-then-get-eq0 : goal.returns-then-get-eq0
returns-then-get-eq0 c = sym (get_or-merged_left c.args.left_out c.args.marks.now.codes c.args.others.now.codes c.args.i c.requires.within (sym c.get.ensures ∙ c.if-get-eq0.true))

pub get-requires-2 : goal.get-requires-2
get-requires-2 c = omega (arith, c.requires.rank, c.requires.paired, rank-within c.args.marks.now.codes c.args.i c.requires.within (λ e. c.if-get-eq0.false (c.get.ensures ∙ e)))

pub returns : goal.returns
returns c =
    c.get-2.ensures ∙ ap (λ (k : ℕ). get_or c.args.others.now.codes k 0) c.requires.rank
    ∙ sym (get_or-merged_other c.args.left_out c.args.marks.now.codes c.args.others.now.codes c.args.i c.requires.bits c.requires.within (λ e. c.if-get-eq0.false (c.get.ensures ∙ e)))
