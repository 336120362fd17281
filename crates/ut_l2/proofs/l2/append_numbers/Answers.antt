use Rattle.std.proofs.Common.{◌≡◌, suc, ◌+◌, ◌++◌, ◌∷◌, [], ◌∙◌, sym, ap, append_assoc, arith}
use Rattle.std.specs.List.{range_with_len}
use Rattle.ut_l2.proofs.SourceLemmas.{range-more}
use Rattle.ut_l2.proofs.l2.append_numbers.Goals as goal

pub loop-i-preserved : goal.loop-i-preserved
loop-i-preserved c =
    let at = c.loop-i in
    let next : at.i + 1 ≡ suc at.i = omega arith in
    record {
      room = omega (arith, at.invariant.room, c.push_reserved.ensures.len, c.push_reserved.ensures.capacity, c.loop-i-test.true);
      ids = c.push_reserved.ensures.items
          ∙ ap (λ l. l ++ (c.args.first + at.i) ∷ []) at.invariant.ids
          ∙ append_assoc c.args.ids.now.items (range_with_len c.args.first at.i) ((c.args.first + at.i) ∷ [])
          ∙ ap (λ l. c.args.ids.now.items ++ l) (sym (range-more c.args.first at.i))
          ∙ sym (ap (λ n. c.args.ids.now.items ++ range_with_len c.args.first n) next);
    }
