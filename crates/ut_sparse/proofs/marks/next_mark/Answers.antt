use Rattle.std.proofs.Common.{refl, sym, ◌∙◌, arith}
use Rattle.ut_sparse.proofs.ScanLemmas.{row_marks, row_marks-none, row_marks-some, more-within, word_from}
use Rattle.ut_sparse.proofs.marks.next_mark.Goals as goal

pub marks_from-rest-requires-clause-within : goal.marks_from-rest-requires-clause-within
marks_from-rest-requires-clause-within c = more-within c.args.row c.args.marks.now.codes c.requires.more

pub loop-rest-init : goal.loop-rest-init
unfolding row_marks word_from
loop-rest-init c = record {
  behind = omega arith;
  within = more-within c.args.row c.args.marks.now.codes c.requires.more;
  rest = c.marks_from-rest.ensures;
  first = refl;
}

pub marks_from-rest-requires-in-loop-rest-clause-within : goal.marks_from-rest-requires-in-loop-rest-clause-within
marks_from-rest-requires-in-loop-rest-clause-within c =
    let inv = c.loop-rest.invariant in
    (row_marks-none c.args.marks.now.codes c.loop-rest.at _ c.requires.bits inv.within (sym c.loop-rest-test.true ∙ inv.rest) (omega (arith, inv.first, c.requires.more)) refl).0

pub loop-rest-preserved : goal.loop-rest-preserved
unfolding row_marks word_from
loop-rest-preserved c =
    let inv = c.loop-rest.invariant in
    let next = row_marks-none c.args.marks.now.codes c.loop-rest.at _ c.requires.bits inv.within (sym c.loop-rest-test.true ∙ inv.rest) (omega (arith, inv.first, c.requires.more)) refl in
    record {
      behind = omega (arith, inv.behind);
      within = next.0;
      rest = c.marks_from-rest-in-loop-rest.ensures;
      first = next.1 ∙ inv.first;
    }

pub returns-clause-within : goal.returns-clause-within
returns-clause-within c = (row_marks-some c.args.marks.now.codes c.loop-rest.at c.loop-rest.rest c.requires.bits c.loop-rest.invariant.rest (omega (arith, c.loop-rest-test.false))).within

pub returns-clause-mark : goal.returns-clause-mark
returns-clause-mark c = (row_marks-some c.args.marks.now.codes c.loop-rest.at c.loop-rest.rest c.requires.bits c.loop-rest.invariant.rest (omega (arith, c.loop-rest-test.false))).here

pub returns-clause-first : goal.returns-clause-first
returns-clause-first c =
    (row_marks-some c.args.marks.now.codes c.loop-rest.at c.loop-rest.rest c.requires.bits c.loop-rest.invariant.rest (omega (arith, c.loop-rest-test.false))).first ∙ c.loop-rest.invariant.first
