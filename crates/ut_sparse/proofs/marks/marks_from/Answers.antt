use Rattle.std.proofs.Common.{ℕ, ◌*◌, ◌/◌, ◌≤◌, length, subst, sym, arith}
use Rattle.ut_sparse.proofs.ScanLemmas.{row_marks, row_marks-word, word_from}
use Rattle.ut_sparse.proofs.marks.marks_from.Goals as goal

pub word-requires : goal.word-requires
word-requires c = subst (λ (w : ℕ). 64 * (c.args.row / 64) ≤ length c.args.marks.now.codes * w) (sym c.requires.width) (omega (arith, c.requires.within))

pub returns : goal.returns
unfolding row_marks word_from
returns c = row_marks-word c.args.marks.now.width c.args.row c.word.result c.args.marks.now.codes c.requires.width c.requires.bits c.word.ensures
