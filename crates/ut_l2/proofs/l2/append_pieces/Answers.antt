use Rattle.std.proofs.Common.{◌+◌, ◌<◌, ◌++◌, ◌∙◌, [], length, take, get_or, ap, append_assoc, arith, refl}
use Rattle.std.proofs.lemmas.List.{length-append}
use Rattle.std.proofs.lemmas.List.FromFn.{length-map-range_with_len}
use Rattle.ut_l2.specs.Sources.{cells_in, key_in}
use Rattle.ut_l2.proofs.PieceLemmas.{cut-grown, same-columns}
use Rattle.ut_l2.proofs.SourceLemmas.{range-split}
use Rattle.ut_l2.proofs.l2.append_pieces.Goals as goal

pub append_from-requires-clause-count : goal.append_from-requires-clause-count
append_from-requires-clause-count c = λ j from lt.
    let at = c.loop-at in
    let l : j < length c.args.columns.now.items = omega (arith, lt, at.invariant.width) in
    let long = ap length (at.invariant.so_far j l) ∙ length-append (get_or c.args.columns.now.items j []) (cells_in c.args.source j 0 at.at) in
    omega (arith, long, length-map-range_with_len (key_in c.args.source j) 0 at.at, c.requires.equal j l, c.requires.count)

pub returns-in-Err-clause-err : goal.returns-in-Err-clause-err
returns-in-Err-clause-err c =
    let at = c.loop-at in
    let same = c.in-Err.ensures.err in
    let n = ap length same in
    same-columns c.args.columns.now.items c.cut_from.new.columns.items (c.cut_from.ensures.width ∙ n ∙ at.invariant.width) (λ j lt.
    let l : j < length c.append_from.new.columns.items = omega (arith, lt, n, at.invariant.width) in
    cut-grown c.args.before (get_or c.args.columns.now.items j []) (cells_in c.args.source j 0 at.at) (get_or at.columns.items j []) (get_or c.cut_from.new.columns.items j [])
    (at.invariant.so_far j lt) (c.requires.equal j lt)
    (c.cut_from.ensures.cut j (omega arith) l ∙ ap (λ cols. take c.args.before (get_or cols j [])) same))

pub loop-at-preserved : goal.loop-at-preserved
loop-at-preserved c =
    let at = c.loop-at in
    record {
      within = omega arith;
      width = c.append_from.ensures.width ∙ at.invariant.width;
      so_far = λ j lt.
          let l : j < length at.columns.items = omega (arith, lt, at.invariant.width) in
          let old = get_or c.args.columns.now.items j [] in
          c.in-Ok.ensures.ok j (omega arith) l
          ∙ ap (λ cells. cells ++ cells_in c.args.source j at.at c.min-n.result) (at.invariant.so_far j lt)
          ∙ append_assoc old (cells_in c.args.source j 0 at.at) (cells_in c.args.source j at.at c.min-n.result)
          ∙ ap (λ cells. old ++ cells) (range-split (key_in c.args.source j) 0 at.at c.min-n.result at.at (at.at + c.min-n.result) (omega arith) refl);
    }
