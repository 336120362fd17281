use Rattle.std.proofs.Common.{◌*◌, List, Bool, length, refl, ap, ◌∙◌, arith}
use Rattle.ut_mask.proofs.WordsLemmas.{word-clear, length-view}
use Rattle.ut_mask.proofs.mask.Mask.is_word_clear.Goals as goal

pub returns : goal.returns
returns c =
    let long = length-view c.self.inside.len c.self.inside.words.items c.self.invariant in
    let size = ap (λ (l : List Bool). length l) c.self.view_is in
    c.is_clear.ensures
    ∙ word-clear c.self.inside.len c.args.k (64 * c.args.k) c.index.result.now c.self.inside.words.items c.args.self.now c.self.invariant c.self.view_is c.index.ensures refl
    (omega (arith, c.requires, long, size, c.self.invariant.count))
