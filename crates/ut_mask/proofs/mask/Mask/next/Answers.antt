use Rattle.std.proofs.Common.{◌≡◌, ℕ, List, take, ap, ◌∙◌, arith}
use Rattle.ut_mask.specs.Mask.{words_bits}
use Rattle.ut_mask.proofs.WordsLemmas.{next-found, none-more}
use Rattle.ut_mask.proofs.mask.Mask.next.Goals as goal

pub returns-then-low-lt64-clause-next : goal.returns-then-low-lt64-clause-next
returns-then-low-lt64-clause-next c =
    let inv = c.loop-k.invariant in
    let items = c.as_slice-words.ensures.value in
    let found = c.lowest_from-low.ensures in
    let view : take c.self.inside.len (words_bits c.as_slice-words.result.now) ≡ c.args.self.now = ap (λ (l : List ℕ). take c.self.inside.len (words_bits l)) items ∙ c.self.view_is in
    next-found c.self.inside.len c.loop-k.k c.args.from c.loop-k.at c.lowest_from-low.result c.as_slice-words.result.now c.args.self.now (rw items c.self.invariant) view c.loop-k-test.true inv.word inv.behind
    found.behind c.if-low-lt64.true inv.none (found.stands c.if-low-lt64.true) found.first

pub loop-k-preserved : goal.loop-k-preserved
loop-k-preserved c =
    let inv = c.loop-k.invariant in
    let found = c.lowest_from-low.ensures in
    record {
      behind = omega (arith, inv.behind, inv.word);
      word = omega arith;
      none = λ j lo hi. none-more c.loop-k.k c.args.from c.loop-k.at c.lowest_from-low.result c.as_slice-words.result.now c.loop-k-test.true inv.word found.within inv.none found.first j lo (omega (arith, hi, c.if-low-lt64.false, found.within));
    }
