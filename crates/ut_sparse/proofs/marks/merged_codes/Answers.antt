use Rattle.std.proofs.Common.{◌≡◌, ℕ, ◌++◌, List, length, take, ap, sym, ◌∙◌, arith, [], ◌∷◌, vec_len}
use Rattle.std.proofs.lemmas.List.{take_all}
use Rattle.ut_sparse.specs.Sparse.{marked, merged}
use Rattle.ut_sparse.proofs.SparseLemmas.{marked-next, length-merged, take-next}
use Rattle.ut_sparse.proofs.ScanLemmas.{filled, IsNextMark, code-at_mark}
use Rattle.ut_sparse.proofs.marks.merged_codes.Goals as goal

pub loop-rank-preserved : goal.loop-rank-preserved
loop-rank-preserved c =
    let inv = c.loop-rank.invariant in
    let long : vec_len c.loop-rank.codes ≡ length c.loop-rank.codes.items = omega (arith, c.loop-rank.codes.ok.0) in
    let found = c.next_mark-mark.ensures in
    let mark = c.next_mark-mark.result in
    let marks = c.args.marks.now.codes in
    let others = c.args.others.now.codes in
    let next : IsNextMark marks c.loop-rank.from mark = record { within = found.within; here = found.mark; first = found.first } in
    let before = filled c.args.left_out c.loop-rank.from mark _ marks others _ _ c.in_ok-resize.ensures.items long inv.codes found.behind (omega (arith, found.within)) found.first in
    record {
      within = omega (arith, found.within);
      rank = omega (arith, inv.rank, found.first, found.mark, marked-next marks mark found.within);
      codes =
          c.in_ok-push.ensures.items ∙ ap (λ (l : List ℕ). l ++ c.get.result ∷ []) before
          ∙ ap (λ (n : ℕ). take mark (merged c.args.left_out marks others) ++ n ∷ []) (c.get.ensures ∙ sym (code-at_mark c.args.left_out c.loop-rank.from mark c.loop-rank.rank marks others c.requires.bits next inv.rank))
          ∙ sym (take-next (merged c.args.left_out marks others) mark (omega (arith, found.within, length-merged c.args.left_out marks others)));
    }

pub returns : goal.returns
returns c =
    let inv = c.loop-rank.invariant in
    let long : vec_len c.loop-rank.codes ≡ length c.loop-rank.codes.items = omega (arith, c.loop-rank.codes.ok.0) in
    let marks = c.args.marks.now.codes in
    let codes = merged c.args.left_out marks c.args.others.now.codes in
    let end = c.len-2.result in
    let size : end ≡ length marks = c.len-2.ensures.len in
    let none : marked (take end marks) ≡ marked (take c.loop-rank.from marks) =
    ap (λ l. marked l) (take_all end marks (omega (arith, size))) ∙ c.requires.paired ∙ omega (arith, inv.rank, c.loop-rank-test.false) in
    filled c.args.left_out c.loop-rank.from end _ marks c.args.others.now.codes _ _ c.in_ok-resize-2.ensures.items long inv.codes (omega (arith, inv.within, size)) (omega (arith, size)) none
    ∙ take_all end codes (omega (arith, size, length-merged c.args.left_out marks c.args.others.now.codes))
